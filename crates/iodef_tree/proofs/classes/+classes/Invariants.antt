use Rattle.{std.proofs.Common.{◌≡◌, ◌++◌, drop, map}, iodef_tree.specs.{Tree.{end, elements, member_front}, View.{forest, bodies, body, members_forest}}}
use Rattle.iodef_tree.specs.Walk.{classes_below}
use Rattle.iodef_tree.proofs.classes.+classes.Given as goal

abbrev pub invariant-push_member-loop-place : goal.invariant-push_member-loop-place
invariant-push_member-loop-place l = record {
  pushed : l.paths.items ++ classes_below l.fn.above.items (elements l.name l.place (map body (drop l.place l.item-items)) end)
      ≡ l.fn.paths.items ++ classes_below l.fn.above.items (member_front l.name (bodies l.member) end);
  kept : l.above.items ≡ l.fn.above.items;
}

abbrev pub invariant-push_object-loop-name : goal.invariant-push_object-loop-name
invariant-push_object-loop-name l = record {
  pushed : l.paths.items ++ classes_below l.fn.above.items (members_forest (drop l.name-index l.name-items)) ≡ l.fn.paths.items ++ classes_below l.fn.above.items (forest l.object);
  kept : l.above.items ≡ l.fn.above.items;
}
