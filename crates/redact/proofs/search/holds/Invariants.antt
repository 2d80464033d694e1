use Rattle.{std.proofs.Common.{◌≡◌, drop}, iodef_tree.specs.View.{forest, members_forest}, redact.specs.inner.Search.members_hit}
use Rattle.redact.proofs.search.holds.Given as goal

abbrev pub invariant-loop-member : goal.invariant-loop-member
invariant-loop-member l = members_hit l.finder (members_forest (drop l.member-index l.member-items)) ≡ members_hit l.finder (forest l.object)
