use Rattle.{std.proofs.Common.{◌≡◌, drop, map, length}, sketch.specs.{Sketched.runs_in, inner.{Held.shown, Puts.put_all}}}
use Rattle.sketch.proofs.sketch.run_bits.Given as goal

abbrev pub invariant-loop-holding : goal.invariant-loop-holding
invariant-loop-holding l = record {
  put : put_all l.bits (runs_in (map shown (drop l.holding-index l.held))) ≡ put_all l.initial.bits (runs_in (map shown l.held));
  size : length l.bits ≡ length l.initial.bits;
}
