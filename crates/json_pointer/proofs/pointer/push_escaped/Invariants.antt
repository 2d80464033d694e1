use Rattle.{std.{proofs.Common.{◌≡◌, ◌++◌, string_bytes}, specs.Str.Iter.chars_rest}, json_pointer.specs.{Pointer.escaped, Text.BeginsWith}}
use Rattle.json_pointer.proofs.pointer.push_escaped.Given as goal

abbrev pub invariant-loop-c : goal.invariant-loop-c
invariant-loop-c l = record {
  left : string_bytes l.pointer ++ escaped (chars_rest l.c-iterator) ≡ string_bytes l.fn.pointer ++ escaped l.token;
  begins : BeginsWith (string_bytes l.pointer) (string_bytes l.fn.pointer);
}
