use Rattle.{std.proofs.Common.{◌≡◌, ◌≤◌, [], Ok, IsTrue}, sqlite.specs.{Held.state, State.HasCleanDisk}, hub_state.specs.State.State}
use Rattle.{hub_state.specs.declared.TheConstants.INCIDENT_LIMIT, hub_store.specs.{Keeps.Goes, inner.{Beside.HoldsBeside, Moving.{HasTexts, HoldsMoved}}}}
use Rattle.hub_store.proofs.migrate.move_documents.Given as goal

abbrev pub invariant-loop : goal.invariant-loop
invariant-loop g l = record {
  same_reference : l.tx.conn.ghost_name ≡ l.fn.tx.conn.ghost_name;
  goes : Goes {T = Unit {0}} (state g.S.Store l.fn.tx.conn.now) (state g.S.Store l.tx.conn.now) (Ok tt);
  moved : HasCleanDisk (state g.S.Store l.tx.conn.now) → IsTrue (state g.S.Store l.fn.tx.conn.now).in_transaction → (s : State) → HasTexts s → HoldsBeside [] s (state g.S.Store l.fn.tx.conn.now).now → HoldsMoved l.number l.kept.items (state g.S.Store l.tx.conn.now).now s;
  -- the numbers rise, so the rounds suffice
  rises : HasCleanDisk (state g.S.Store l.tx.conn.now) → IsTrue (state g.S.Store l.fn.tx.conn.now).in_transaction → (s : State) → HasTexts s → HoldsBeside [] s (state g.S.Store l.fn.tx.conn.now).now → (l.counter ≤ l.number) × (l.number ≤ INCIDENT_LIMIT);
}
