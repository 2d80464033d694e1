use Rattle.{std.{proofs.Common.{◌≡◌, ◌++◌, map, drop}, specs.List.AllByRecursion}, serde_json.specs.View.{view, members_view}, iodef_tree.specs.View.forest}
use Rattle.iodef_tree.specs.{View.{body, named, members_forest}, inner.{FitValues.{IsBodyOrdered, AreBodiesOrdered}, Written.{members_of, body_data, put_all}}}
use Rattle.iodef_tree.proofs.value.+value.Given as goal

abbrev pub invariant-object_value-loop-name : goal.invariant-object_value-loop-name
invariant-object_value-loop-name l = record {
  left : put_all (members_of (members_forest (drop l.name-index l.name-items))) (members_view l.made.entries) ≡ members_of (forest l.object);
  ordered : AllByRecursion (λ m. AreBodiesOrdered m.1) (map named (drop l.name-index l.name-items));
}

abbrev pub invariant-items_value-loop-item : goal.invariant-items_value-loop-item
invariant-items_value-loop-item l = record {
  left : map view l.made.items ++ map body_data (map body (drop l.item-index l.item-items)) ≡ map body_data (map body l.items.items);
  ordered : AllByRecursion IsBodyOrdered (map body (drop l.item-index l.item-items));
}
