use Rattle.{std.proofs.Common.{◌≡◌, ◌++◌, drop, map}, iodef_tree.specs.View.{forest, members_forest}, sketch.specs.{Holdings.held_in, inner.Held.shown}}
use Rattle.sketch.specs.inner.Held.{texts_in}
use Rattle.sketch.proofs.holding.push_texts.Given as goal

abbrev pub invariant-loop-member : goal.invariant-loop-member
invariant-loop-member l =
    map shown l.held.items ++ map (held_in l.class l.handling) (texts_in (members_forest (drop l.member-index l.member-items))) ≡ map shown l.fn.held.items ++ map (held_in l.class l.handling) (texts_in (forest l.object))
