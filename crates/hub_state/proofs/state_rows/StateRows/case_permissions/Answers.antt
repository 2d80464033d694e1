use Rattle.{std.{proofs.Common.{◌≡◌, subst}, specs.Prelude.IfOk}, hub_state.specs.{Reads.its_permissions, State.State}}
use Rattle.hub_state.proofs.state_rows.StateRows.case_permissions.Goals as goal

pub returns : goal.returns
returns c = subst (λ (s : State). IfOk c.case_permissions.result (λ v. v ≡ its_permissions c.args.incident s.permissions)) c.self.view_is c.case_permissions.ensures
