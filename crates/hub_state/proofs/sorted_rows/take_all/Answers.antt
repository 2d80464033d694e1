use Rattle.{std.proofs.Common.{rules, not, ◌==◌}, hub_state.proofs.Ranked.left_in_order}
use Rattle.hub_state.proofs.sorted_rows.take_all.Goals as goal

pub returns-clause-in_order : goal.returns-clause-in_order
returns-clause-in_order g c = left_in_order g.T.Row.order (λ r. not (g.T.Row.owner r == c.args.number)) c.args.rows.now.items _ (search rules) c.requires
