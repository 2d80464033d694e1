use Rattle.{std.proofs.Common.{◌≡◌, take}, iodef_tree.specs.{Outline.back, Shown.Shows}}
use Rattle.iodef_tree.proofs.document.Document.from_outline.Given as goal

abbrev pub invariant-loop-line : goal.invariant-loop-line
invariant-loop-line l = record {
  shown : Shows l.shape (back (take l.line-index l.lines));
  built : l.builder ≡ take l.line-index l.lines;
}
