use Rattle.{std.proofs.Common.{◌≡◌, ◌+◌, ◌<◌, ◌^◌, drop}, serde_json.specs.{Data.{items_depth, members_depth}, View.{items_view, members_view}}}
use Rattle.iodef_tree.specs.{Values.{item_nodes, member_nodes, first_at}, inner.FitValues.is_sought}
use Rattle.iodef_tree.proofs.unfit_values.+seek.Given as goal

abbrev pub invariant-first_in_items-loop-index : goal.invariant-first_in_items-loop-index
invariant-first_in_items-loop-index l = record {
  left : first_at (is_sought l.sought) (item_nodes l.objects l.arrays l.index (items_view (drop l.index l.item-items))) ≡ first_at (is_sought l.sought) (item_nodes l.objects l.arrays 0 (items_view l.items.items));
  room : (l.objects + l.arrays) + items_depth (items_view (drop l.index l.item-items)) < 2 ^ 32;
}

abbrev pub invariant-first_in_members-loop-name : goal.invariant-first_in_members-loop-name
invariant-first_in_members-loop-name l = record {
  left : first_at (is_sought l.sought) (member_nodes l.objects (members_view l.name-iterator)) ≡ first_at (is_sought l.sought) (member_nodes l.objects (members_view l.members.entries));
  room : l.objects + members_depth (members_view l.name-iterator) < 2 ^ 32;
}
