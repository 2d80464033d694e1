use Rattle.{std.proofs.Common.{◌≡◌, ◌+◌, ◌^◌, ◌<◌, ◌++◌, drop, map}, iodef_tree.specs.{Tree.{end, member_front, elements, lines, height}, View.forest}}
use Rattle.iodef_tree.specs.View.{bodies, body, members_forest}
use Rattle.iodef_tree.proofs.outline.+outline.Given as goal

abbrev pub invariant-push_member-loop-item : goal.invariant-push_member-loop-item
invariant-push_member-loop-item l =
    record {
      lines : l.lines.items ++ lines l.depth (elements l.name l.item-index (map body (drop l.item-index l.item-items)) end)
          ≡ l.fn.lines.items ++ lines l.depth (member_front l.name (bodies l.member) end);
      room : l.depth + height (elements l.name l.item-index (map body (drop l.item-index l.item-items)) end) < 2 ^ 32;
    }

abbrev pub invariant-push_object-loop-name : goal.invariant-push_object-loop-name
invariant-push_object-loop-name l =
    record {
      lines : l.lines.items ++ lines l.depth (members_forest (drop l.name-index l.name-items)) ≡ l.fn.lines.items ++ lines l.depth (forest l.object);
      room : l.depth + height (members_forest (drop l.name-index l.name-items)) < 2 ^ 32;
    }
