use Rattle.{std.proofs.Common.{◌≡◌, List, [], map, take, Ok}, sqlite.specs.Held.state, hub_store.specs.{Keeps.Goes, Layout.Step, Parts.Part, inner.Makes.Makes}}
use Rattle.hub_store.specs.inner.Remakes.{HoldsAnew, PutsEach}
use Rattle.hub_store.proofs.remake.put_rows.Given as goal

abbrev pub invariant-loop-row : goal.invariant-loop-row
invariant-loop-row g l = record {
  same_reference : l.tx.conn.ghost_name ≡ l.fn.tx.conn.ghost_name;
  goes : Goes {T = Unit {0}} (state g.S.Store l.fn.tx.conn.now) (state g.S.Store l.tx.conn.now) (Ok tt);
  made : (step : Step) → (ps : List Part) → PutsEach g.S.Store l.text step l.rows ps → Makes {T = Unit {0}} (state g.S.Store l.fn.tx.conn.now) (state g.S.Store l.tx.conn.now) (HoldsAnew step [] ps) (HoldsAnew step (map step.row (take l.row-index l.rows)) ps) (Ok tt);
}
