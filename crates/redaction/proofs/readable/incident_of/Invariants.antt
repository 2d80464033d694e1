use Rattle.{std.proofs.Common.{◌≡◌, drop}, iodef_tree.specs.View.{forest, members_forest}, redaction.specs.inner.Trees.incident_in}
use Rattle.redaction.proofs.readable.incident_of.Given as goal

abbrev pub invariant-loop-key : goal.invariant-loop-key
invariant-loop-key l = incident_in (members_forest (drop l.key-index l.key-items)) ≡ incident_in (forest l.root)
