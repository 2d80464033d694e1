use Rattle.{std.proofs.Common.{◌≡◌, drop}, iodef_tree.specs.View.{forest, members_forest}, marking.specs.Members.held_in}
use Rattle.marking.proofs.class.held.Given as goal

abbrev pub invariant-loop-key : goal.invariant-loop-key
invariant-loop-key l = held_in l.name (members_forest (drop l.key-index l.key-items)) ≡ held_in l.name (forest l.object)
