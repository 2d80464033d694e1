use Rattle.{std.proofs.Common.take, hub_store.specs.inner.Adds.ArePut}
use Rattle.hub_store.proofs.into_edit.put_shown.Given as goal

abbrev pub invariant-loop-row : goal.invariant-loop-row
invariant-loop-row g l = ArePut g.T.FromRow.shows g.T.IntoEdit.edit (take l.row-index l.shown) l.fn.rows l.rows
