use Rattle.{std.{proofs.Common.{◌≡◌, drop}, specs.List.position_from}, redaction.specs.Whole.comes_before}
use Rattle.redaction.proofs.whole.place_in.Given as goal

abbrev pub invariant-loop-line : goal.invariant-loop-line
invariant-loop-line l = record {
  counted : l.place ≡ l.line-index;
  left : position_from (comes_before l.depth l.name) l.line-index (drop l.line-index l.lines) ≡ position_from (comes_before l.depth l.name) 0 l.lines;
}
