use Rattle.{std.{proofs.Common.{◌≡◌, ◌+◌, ◌++◌, length, Ok}, specs.Slice.Iter.{chunks_rest, chunks_size}}, sqlite.specs.Held.state}
use Rattle.{hub_state.specs.Documents.Lines, hub_store.specs.inner.PutsLines.PutsLines}
use Rattle.hub_store.proofs.put_lines.put_lines.Given as goal

abbrev pub invariant-loop-some : goal.invariant-loop-some
invariant-loop-some g l =
    (goal.iterator-loop-some g).can_next l.some-iterator
    × (goal.iterator-loop-some g).is_finite l.some-iterator
    × (chunks_size l.some-iterator ≡ 20)
    × (l.tx.conn.ghost_name ≡ l.fn.tx.conn.ghost_name)
    × (done : Lines) × (done ++ chunks_rest l.some-iterator ≡ l.lines) × (l.place ≡ 1 + length done)
    × PutsLines {T = Unit {0}} l.incident 1 done (state g.S.Store l.fn.tx.conn.now) (state g.S.Store l.tx.conn.now) (Ok tt)
