use Rattle.{std.proofs.Common.{◌≡◌, ◌++◌, take, drop}, circle.specs.Aftermath.exchange_key}
use Rattle.circle_rows.proofs.sets.set_key.Given as goal

abbrev pub invariant-loop-row : goal.invariant-loop-row
invariant-loop-row l = l.row-items ≡ exchange_key l.person l.key (take l.row-index l.fn.rows.items) ++ drop l.row-index l.fn.rows.items
