use Rattle.{std.{proofs.Common.{◌≡◌, ◌++◌, map, true, false}, specs.{List.AllByRecursion, Vec.Iter.into_iter_items}}, serde_json.specs.View.items_view}
use Rattle.{serde_json.specs.{View.members_view, Written.{items_have_float, members_have_float}}, iodef_tree.proofs.FromValues.given_members}
use Rattle.iodef_tree.specs.{Filled.{IsItemFilled, IsMemberFilled}, Values.items_of_data, View.{body, named}, inner.FitValues.{IsBodyOrdered, AreBodiesOrdered}}
use Rattle.iodef_tree.specs.inner.FitValues.{HasBodyTexts, HaveTexts, are_flat, are_members_flat}
use Rattle.iodef_tree.proofs.convert.+convert.Given as goal

abbrev pub invariant-items_from-loop-item : goal.invariant-items_from-loop-item
invariant-items_from-loop-item l = record {
  made : map body l.made.items ++ items_of_data (items_view (into_iter_items l.item-iterator)) ≡ items_of_data (items_view l.fn.items.items);
  ordered : AllByRecursion IsBodyOrdered (map body l.made.items);
  texts : AllByRecursion (HasBodyTexts true) (map body l.made.items);
  filled : AllByRecursion IsItemFilled l.made.items;
  whole : items_have_float (items_view (into_iter_items l.item-iterator)) ≡ false;
  flat : are_flat (items_view (into_iter_items l.item-iterator)) ≡ true;
}

abbrev pub invariant-object_from-loop-name : goal.invariant-object_from-loop-name
invariant-object_from-loop-name l = record {
  made : map named l.made.items ++ given_members l.name-iterator ≡ given_members l.fn.members.entries;
  ordered : AllByRecursion (λ m. AreBodiesOrdered m.1) (map named l.made.items);
  texts : AllByRecursion (λ m. HaveTexts m.1) (map named l.made.items);
  filled : AllByRecursion (λ m. IsMemberFilled m.1) l.made.items;
  whole : members_have_float (members_view l.name-iterator) ≡ false;
  flat : are_members_flat (members_view l.name-iterator) ≡ true;
}
