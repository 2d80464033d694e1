use Rattle.{std.proofs.Common.{string_bytes, ◌≡◌, [], ◌∷◌, ◌++◌, map, drop, false}, iodef_tree.specs.View.{forest, members_forest, body}}
use Rattle.iodef_tree.specs.inner.Written.{written, array_text}
use Rattle.iodef_tree.proofs.writer.+write.Given as goal

abbrev pub invariant-write_object-loop-name : goal.invariant-write_object-loop-name
invariant-write_object-loop-name l =
    string_bytes l.out ++ written l.later (members_forest (drop l.name-index l.name-items)) ≡ (string_bytes l.fn.out ++ 123 ∷ []) ++ written false (forest l.object)

abbrev pub invariant-write_items-loop-item : goal.invariant-write_items-loop-item
invariant-write_items-loop-item l =
    string_bytes l.out ++ array_text l.later (map body (drop l.item-index l.item-items)) ≡ (string_bytes l.fn.out ++ 91 ∷ []) ++ array_text false (map body l.items.items)
