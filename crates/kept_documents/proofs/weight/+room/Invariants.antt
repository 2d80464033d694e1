use Rattle.{std.proofs.Common.{◌≡◌, ◌+◌, true, drop, map, sum_by}, iodef_tree.specs.View.{forest, bodies, body, members_forest}}
use Rattle.kept_documents.specs.Trees.{forest_weight, bodies_weight, body_weight}
use Rattle.kept_documents.proofs.weight.+room.Given as goal

abbrev pub invariant-member_room-loop-item : goal.invariant-member_room-loop-item
invariant-member_room-loop-item l = l.left + bodies_weight l.name (bodies l.member) ≡ l.room + sum_by (body_weight true l.name) (map body (drop l.item-index l.item-items))

abbrev pub invariant-room_left-loop-name : goal.invariant-room_left-loop-name
invariant-room_left-loop-name l = l.left + forest_weight (forest l.object) ≡ l.room + forest_weight (members_forest (drop l.name-index l.name-items))
