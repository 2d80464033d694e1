use Rattle.{std.proofs.Common.{◌∙◌, ap}, hub_state.specs.State.{State, has_recipient}}
use Rattle.hub_state.proofs.state_rows.StateRows.is_addressed.Goals as goal

pub returns : goal.returns
returns c = c.is_addressed.ensures c.self.inside.directory ∙ ap (λ (s : State). has_recipient c.args.incident c.args.target s) c.self.view_is
