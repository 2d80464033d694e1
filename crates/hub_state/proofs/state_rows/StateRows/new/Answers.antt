use Rattle.{std.proofs.Common.{◌∙◌, ap}, hub_state.specs.State.empty}
use Rattle.hub_state.proofs.state_rows.StateRows.new.Goals as goal

pub returns : goal.returns
returns c = c.new-2.ensures.rows c.new.result ∙ ap (λ d. record empty { directory = d }) c.new.ensures
