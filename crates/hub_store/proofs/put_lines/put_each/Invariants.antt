use Rattle.{std.proofs.Common.{◌≡◌, ◌+◌, take, Ok}, sqlite.specs.Held.state, hub_store.specs.inner.PutsLines.PutsLines}
use Rattle.hub_store.proofs.put_lines.put_each.Given as goal

abbrev pub invariant-loop-line : goal.invariant-loop-line
invariant-loop-line g l = record {
  same_reference : l.tx.conn.ghost_name ≡ l.fn.tx.conn.ghost_name;
  at : l.at ≡ l.place + l.line-index;
  puts : PutsLines {T = Unit {0}} l.incident l.place (take l.line-index l.lines) (state g.S.Store l.fn.tx.conn.now) (state g.S.Store l.tx.conn.now) (Ok tt);
}
