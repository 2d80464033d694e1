use Rattle.{std.proofs.Common.{◌≡◌, ◌+◌, ◌<◌, ◌^◌, drop}, serde_json.specs.{Data.{items_depth, members_depth}, View.{items_view, members_view}}}
use Rattle.iodef_tree.specs.{Values.{item_nodes, member_nodes}, inner.FitValues.{any_at, is_refused}}
use Rattle.iodef_tree.proofs.unfit_values.+plain.Given as goal

abbrev pub invariant-are_items_plain-loop-item : goal.invariant-are_items_plain-loop-item
invariant-are_items_plain-loop-item l = record {
  left : any_at is_refused (item_nodes l.objects l.arrays l.item-index (items_view (drop l.item-index l.item-items))) ≡ any_at is_refused (item_nodes l.objects l.arrays 0 (items_view l.items.items));
  room : (l.objects + l.arrays) + items_depth (items_view (drop l.item-index l.item-items)) < 2 ^ 32;
}

abbrev pub invariant-are_members_plain-loop-name : goal.invariant-are_members_plain-loop-name
invariant-are_members_plain-loop-name l = record {
  left : any_at is_refused (member_nodes l.objects (members_view l._name-iterator)) ≡ any_at is_refused (member_nodes l.objects (members_view l.members.entries));
  room : l.objects + members_depth (members_view l._name-iterator) < 2 ^ 32;
}
