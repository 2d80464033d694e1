use Rattle.{std.proofs.Common.{◌≡◌, [], List, map, take, Ok}, sqlite_value.specs.Order.Row, sqlite.specs.Held.state, hub_state.specs.State.State}
use Rattle.hub_store.specs.{Layout.tables_2, Parts.HoldsParts, Rows.naming_row_2, inner.Makes.Makes}
use Rattle.hub_store.proofs.migrate.put_back.Given as goal

abbrev pub invariant-loop-naming : goal.invariant-loop-naming
invariant-loop-naming g l = record {
  same_reference : l.tx.conn.ghost_name ≡ l.fn.tx.conn.ghost_name;
  made : (s : State) → (items : List Row) → Makes {T = Unit {0}} (state g.S.Store l.fn.tx.conn.now) (state g.S.Store l.tx.conn.now) (HoldsParts (tables_2 1 items [] s)) (HoldsParts (tables_2 1 items (map naming_row_2 (take l.naming-index l.kept)) s)) (Ok tt);
}
