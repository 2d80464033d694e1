use Rattle.{std.proofs.Common.{◌≡◌, drop, map, length}, sketch.specs.{Sketched.names_in, inner.{Held.shown, Puts.put_all}}}
use Rattle.sketch.proofs.sketch.name_bits.Given as goal

abbrev pub invariant-loop-holding : goal.invariant-loop-holding
invariant-loop-holding l = record {
  put : put_all l.bits (names_in (map shown (drop l.holding-index l.held))) ≡ put_all l.initial.bits (names_in (map shown l.held));
  size : length l.bits ≡ length l.initial.bits;
}
