use Rattle.{std.proofs.Common.{◌≡◌, length}, iodef_tree.specs.{Filled.IsFilled, View.forest, inner.Lookup.object_at}}
use Rattle.iodef_tree.proofs.lookup.object_at.Given as goal

abbrev pub invariant-loop-name : goal.invariant-loop-name
invariant-loop-name l = record {
  at : object_at (forest l.object) l.left ≡ object_at (forest l.root) l.path;
  filled : IsFilled l.object;
}

abbrev pub decreases-loop-name : goal.decreases-loop-name
decreases-loop-name l = length l.left
