use Rattle.{std.proofs.Common.{◌≡◌, ◌++◌, drop, string_bytes}, json_pointer.specs.Pointer.pointer_text}
use Rattle.json_pointer.proofs.path.Path.print.Given as goal

abbrev pub invariant-loop-token : goal.invariant-loop-token
invariant-loop-token l = string_bytes l.pointer ++ pointer_text (drop l.token-index l.token-items) ≡ pointer_text l.token-items
