use Rattle.{std.{proofs.Common.{◌≡◌, string_bytes}, specs.Str.Iter.chars_rest}, json_pointer.{proofs.Unescaping.made_then, specs.Pointer.unescaped}}
use Rattle.json_pointer.specs.Pointer.{unescaped_from}
use Rattle.json_pointer.proofs.pointer.read_token.Given as goal

abbrev pub invariant-loop-c : goal.invariant-loop-c
invariant-loop-c l = made_then (string_bytes l.token) (unescaped_from l.behind_tilde (chars_rest l.c-iterator)) ≡ unescaped l.written
