use Rattle.{std.proofs.Common.{◌≡◌, ◌∷◌, drop}, iodef_tree.specs.{View.{forest, members_forest}, inner.Lookup.class_at}}
use Rattle.iodef_tree.proofs.lookup.item_at.Given as goal

abbrev pub invariant-loop-own : goal.invariant-loop-own
invariant-loop-own l = class_at (members_forest (drop l.own-index l.own-items)) (l.name ∷ l.path) ≡ class_at (forest l.object) (l.name ∷ l.path)
