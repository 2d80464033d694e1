use Rattle.{std.{proofs.Common.{◌≡◌, subst}, specs.Prelude.IfOk}, hub_state.specs.{Reads.its_recipients, State.State}}
use Rattle.hub_state.proofs.state_rows.StateRows.copied_recipients.Goals as goal

pub returns : goal.returns
returns c = subst (λ (s : State). IfOk c.copied_recipients.result (λ v. v ≡ its_recipients c.args.incident s.recipients)) c.self.view_is c.copied_recipients.ensures
