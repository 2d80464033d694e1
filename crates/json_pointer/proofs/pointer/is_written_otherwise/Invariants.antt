use Rattle.{std.{proofs.Common.{◌≡◌, ◌||◌, drop}, specs.List.list_any}, json_pointer.specs.Pointer.is_escaped_byte}
use Rattle.json_pointer.proofs.pointer.is_written_otherwise.Given as goal

abbrev pub invariant-loop-byte : goal.invariant-loop-byte
invariant-loop-byte l = (l.found || list_any is_escaped_byte (drop l.byte-index l.byte-items)) ≡ list_any is_escaped_byte l.byte-items
