use Rattle.{std.{proofs.Common.{◌≡◌, ◌||◌, drop}, specs.List.list_any}, iodef_tree.specs.inner.Written.needs_escape}
use Rattle.iodef_tree.proofs.string.is_escaped.Given as goal

abbrev pub invariant-loop-byte : goal.invariant-loop-byte
invariant-loop-byte l = (l.escaped || list_any needs_escape (drop l.byte-index l.byte-items)) ≡ list_any needs_escape l.byte-items
