use Rattle.{std.proofs.Common.{◌≡◌, ◌≤◌, Ok}, sqlite.specs.Held.state, hub_state.specs.State.State, hub_store.specs.{Keeps.Goes, Means.HoldsAs}}
use Rattle.hub_store.specs.inner.Makes.{Makes}
use Rattle.hub_store.proofs.migrate.go_on.Given as goal

abbrev pub invariant-loop-from : goal.invariant-loop-from
invariant-loop-from g l = record {
  same_reference : l.tx.conn.ghost_name ≡ l.fn.tx.conn.ghost_name;
  above : l.version ≤ l.from;
  goes : Goes {T = Unit {0}} (state g.S.Store l.fn.tx.conn.now) (state g.S.Store l.tx.conn.now) (Ok tt);
  made : 2 ≤ l.version → (s : State) → Makes {T = Unit {0}} (state g.S.Store l.fn.tx.conn.now) (state g.S.Store l.tx.conn.now) (λ db. HoldsAs l.version db s) (λ db. HoldsAs l.from db s) (Ok tt);
}
