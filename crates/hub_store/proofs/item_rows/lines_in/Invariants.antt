use Rattle.{std.proofs.Common.take, hub_store.specs.{Items.placed_from, inner.Shown.{ShowsAll, ShowsPlaced}}}
use Rattle.hub_store.proofs.item_rows.lines_in.Given as goal

abbrev pub invariant-loop-row : goal.invariant-loop-row
invariant-loop-row l = ShowsAll ShowsPlaced (take l.row-index l.rows) (placed_from 1 l.lines.items)
