use Rattle.std.{proofs.Common.{◌≡◌, drop, not}, specs.{Char.is_ascii_digit, List.position_from}}
use Rattle.redaction.proofs.moment.digit_count.Given as goal

abbrev pub invariant-loop-byte : goal.invariant-loop-byte
invariant-loop-byte l = record {
  counted : l.count ≡ l.byte-index;
  left : position_from (λ c. not (is_ascii_digit c)) l.byte-index (drop l.byte-index l.text) ≡ position_from (λ c. not (is_ascii_digit c)) 0 l.text;
}
