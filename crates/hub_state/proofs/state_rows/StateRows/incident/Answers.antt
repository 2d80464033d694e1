use Rattle.{std.proofs.Common.{◌∙◌, ap}, hub_state.specs.State.{State, incident_of}}
use Rattle.hub_state.proofs.state_rows.StateRows.incident.Goals as goal

pub returns : goal.returns
returns c = c.incident.ensures ∙ ap (λ (s : State). incident_of c.args.number s) c.self.view_is
