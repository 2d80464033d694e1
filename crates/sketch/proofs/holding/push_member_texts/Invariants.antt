use Rattle.{std.{proofs.Common.{◌≡◌, ◌++◌, drop, map}, specs.List.flat_map}, iodef_tree.specs.View.{bodies, body}, sketch.specs.Holdings.held_in}
use Rattle.sketch.specs.inner.Held.{shown, body_texts, bodies_texts}
use Rattle.sketch.proofs.holding.push_member_texts.Given as goal

abbrev pub invariant-loop-item : goal.invariant-loop-item
invariant-loop-item l =
    map shown l.held.items ++ map (held_in l.class l.handling) (flat_map body_texts (map body (drop l.item-index l.item-items))) ≡ map shown l.fn.held.items ++ map (held_in l.class l.handling) (bodies_texts (bodies l.member))
