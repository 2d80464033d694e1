use Rattle.{std.proofs.Common.{◌≡◌, Ok}, sqlite.specs.Held.state, hub_store.specs.{Layout.bare_by, Parts.HoldsParts, Tables.schema_by, inner.Makes.Creates}}
use Rattle.hub_store.specs.inner.Makes.{HasEmpty}
use Rattle.hub_store.proofs.create.make_newest.Given as goal

abbrev pub invariant-loop-from : goal.invariant-loop-from
invariant-loop-from g l = record {
  same_reference : l.tx.conn.ghost_name ≡ l.fn.tx.conn.ghost_name;
  made : Creates {T = Unit {0}} (state g.S.Store l.fn.tx.conn.now) (state g.S.Store l.tx.conn.now) (HasEmpty (schema_by 2)) (HoldsParts (bare_by l.from)) (Ok tt);
}
