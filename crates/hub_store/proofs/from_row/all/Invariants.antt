use Rattle.{std.proofs.Common.take, hub_store.specs.inner.Shown.ShowsAll}
use Rattle.hub_store.proofs.from_row.all.Given as goal

abbrev pub invariant-loop-row : goal.invariant-loop-row
invariant-loop-row g l = ShowsAll g.T.FromRow.shows (take l.row-index l.rows) l.found.items
