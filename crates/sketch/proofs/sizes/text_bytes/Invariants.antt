use Rattle.{std.proofs.Common.{◌≡◌, ◌+◌, ◌≤◌, min, drop, map}, sketch.specs.{Sketched.text_bytes, inner.Held.shown}}
use Rattle.sketch.proofs.sizes.text_bytes.Given as goal

abbrev pub invariant-loop-holding : goal.invariant-loop-holding
invariant-loop-holding l = record {
  counted : min (l.bytes + text_bytes (map shown (drop l.holding-index l.held))) 262144 ≡ min (text_bytes (map shown l.held)) 262144;
  fits : l.bytes ≤ 262144;
}
