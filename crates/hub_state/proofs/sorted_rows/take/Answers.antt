use Rattle.{std.proofs.Common.{rules, not}, hub_state.{proofs.Ranked.left_in_order, specs.InOrder.is_alike}}
use Rattle.hub_state.proofs.sorted_rows.take.Goals as goal

pub returns-clause-in_order : goal.returns-clause-in_order
returns-clause-in_order g c = left_in_order g.T.Row.order (λ r. not (is_alike g.T.Row.order r c.args.row.now)) c.args.rows.now.items _ (search rules) c.requires
