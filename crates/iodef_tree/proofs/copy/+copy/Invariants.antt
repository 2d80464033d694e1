use Rattle.{std.proofs.Common.{◌≡◌, ◌++◌, map, drop}, iodef_tree.specs.{Filled.{is_member_filled, is_item_filled}, View.{body, named}}}
use Rattle.iodef_tree.proofs.copy.+copy.Given as goal

abbrev pub invariant-copy_items-loop-item : goal.invariant-copy_items-loop-item
invariant-copy_items-loop-item l = record {
  same : map body l.made.items ++ map body (drop l.item-index l.item-items) ≡ map body l.items.items;
  filled : map is_item_filled l.made.items ++ map is_item_filled (drop l.item-index l.item-items) ≡ map is_item_filled l.items.items;
}

abbrev pub invariant-copy_members-loop-name : goal.invariant-copy_members-loop-name
invariant-copy_members-loop-name l = record {
  same : map named l.made.items ++ map named (drop l.name-index l.name-items) ≡ map named l.members.items;
  filled : map (λ m. is_member_filled m.1) l.made.items ++ map (λ m. is_member_filled m.1) (drop l.name-index l.name-items) ≡ map (λ m. is_member_filled m.1) l.members.items;
}
