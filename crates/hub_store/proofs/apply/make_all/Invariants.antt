use Rattle.{std.proofs.Common.{◌≡◌, take, Ok}, sqlite.specs.Held.state, hub_state.specs.{Edits.with_edits, State.State}, hub_store.specs.Means.Holds}
use Rattle.hub_store.specs.inner.Makes.{Makes}
use Rattle.hub_store.proofs.apply.make_all.Given as goal

abbrev pub invariant-loop-edit : goal.invariant-loop-edit
invariant-loop-edit g l = record {
  same_reference : l.tx.conn.ghost_name ≡ l.fn.tx.conn.ghost_name;
  made : (s : State) → Makes {T = Unit {0}} (state g.S.Store l.fn.tx.conn.now) (state g.S.Store l.tx.conn.now) (λ db. Holds db s) (λ db. Holds db (with_edits (take l.edit-index l.edits) s)) (Ok tt);
}
