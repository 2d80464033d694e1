use Rattle.{std.{proofs.Common.{◌≡◌, subst}, specs.Prelude.IfOk}, hub_state.specs.{Reads.its_gates, State.State}}
use Rattle.hub_state.proofs.state_rows.StateRows.case_gates.Goals as goal

pub returns : goal.returns
returns c = subst (λ (s : State). IfOk c.case_gates.result (λ v. v ≡ its_gates c.args.incident s.gates)) c.self.view_is c.case_gates.ensures
