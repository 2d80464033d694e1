use Rattle.std.{proofs.Common.{◌≡◌, drop, nat_lt}, specs.List.position_from}
use Rattle.redaction.proofs.whole.block_length.Given as goal

abbrev pub invariant-loop-line : goal.invariant-loop-line
invariant-loop-line l = record {
  counted : l.place ≡ l.line-index;
  left : position_from (λ x. nat_lt x.depth l.depth) l.line-index (drop l.line-index l.lines) ≡ position_from (λ x. nat_lt x.depth l.depth) 0 l.lines;
}
