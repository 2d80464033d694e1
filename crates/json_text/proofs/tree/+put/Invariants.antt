use Rattle.{std.proofs.Common.{◌≡◌, ℕ, List, [], ◌∷◌, ◌++◌, map, drop, false}, serde_json.specs.Written.comma_if, iodef_tree.specs.View.forest}
use Rattle.iodef_tree.specs.{View.{members_forest, body}, inner.Written.{written, array_text}}
use Rattle.json_text.proofs.tree.+put.Given as goal

abbrev pub invariant-put_object-loop-name : goal.invariant-put_object-loop-name
invariant-put_object-loop-name g l =
    (done : List ℕ) × g.S.Sink.puts l.fn.out.sink done l.out.sink ×
    (done ++ written l.out.after_value (members_forest (drop l.name-index l.name-items)) ≡ (comma_if l.fn.out.after_value ++ 123 ∷ []) ++ written false (forest l.object))

abbrev pub invariant-put_items-loop-item : goal.invariant-put_items-loop-item
invariant-put_items-loop-item g l =
    (done : List ℕ) × g.S.Sink.puts l.fn.out.sink done l.out.sink ×
    (done ++ array_text l.out.after_value (map body (drop l.item-index l.item-items)) ≡ (comma_if l.fn.out.after_value ++ 91 ∷ []) ++ array_text false (map body l.items.items))
