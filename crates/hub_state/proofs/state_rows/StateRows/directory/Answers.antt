use Rattle.{std.proofs.Common.ap, hub_state.specs.State.State}
use Rattle.hub_state.proofs.state_rows.StateRows.directory.Goals as goal

pub returns : goal.returns
returns c = ap (λ (s : State). s.directory) c.self.view_is
