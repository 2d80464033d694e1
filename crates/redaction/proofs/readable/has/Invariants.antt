use Rattle.{std.proofs.Common.{◌≡◌, drop}, iodef_tree.specs.View.{forest, members_forest}, redaction.specs.inner.Trees.has_name}
use Rattle.redaction.proofs.readable.has.Given as goal

abbrev pub invariant-loop-key : goal.invariant-loop-key
invariant-loop-key l = has_name l.name (members_forest (drop l.key-index l.key-items)) ≡ has_name l.name (forest l.object)
