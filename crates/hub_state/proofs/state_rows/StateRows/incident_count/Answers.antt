use Rattle.{std.{proofs.Common.{◌∙◌, ap, length}, specs.Prelude.min}, hub_state.specs.State.State}
use Rattle.hub_state.proofs.state_rows.StateRows.incident_count.Goals as goal

pub returns : goal.returns
returns c = c.capped.ensures ∙ (ap (λ l. min (length l) 4294967295) c.as_slice.ensures.value ∙ ap (λ (s : State). min (length s.incidents) 4294967295) c.self.view_is)
