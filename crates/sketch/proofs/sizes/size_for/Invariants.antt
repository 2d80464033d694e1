use Rattle.std.proofs.Common.{◌≡◌, ◌-◌, ◌*◌, ◌^◌, ◌<◌, ◌≤◌}
use Rattle.sketch.proofs.sizes.size_for.Given as goal

abbrev pub invariant-loop-exponent : goal.invariant-loop-exponent
invariant-loop-exponent l = record {
  power : l.size ≡ 2 ^ l.exponent;
  least : 6 ≤ l.exponent;
  most : l.exponent ≤ 16;
  no_more : 6 < l.exponent → 2 * l.size < l.bytes;
  fits : l.size ≤ 131072;
}

abbrev pub decreases-loop-exponent : goal.decreases-loop-exponent
decreases-loop-exponent l = 16 - l.exponent
