use Rattle.{std.proofs.Common.{◌≡◌, drop, map, nat_le}, iodef_tree.specs.{Tree.height, View.{forest, bodies, body, members_forest}}}
use Rattle.redaction.specs.inner.Trees.{tallest, bodies_height}
use Rattle.redaction.proofs.limits.+depth.Given as goal

abbrev pub invariant-is_low-loop-name : goal.invariant-is_low-loop-name
invariant-is_low-loop-name l = nat_le (height (members_forest (drop l._name-index l._name-items))) l.depth ≡ nat_le (height (forest l.object)) l.depth

abbrev pub invariant-is_member_low-loop-item : goal.invariant-is_member_low-loop-item
invariant-is_member_low-loop-item l = nat_le (tallest (map body (drop l.item-index l.item-items))) l.depth ≡ nat_le (bodies_height (bodies l.member)) l.depth
