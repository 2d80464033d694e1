use Rattle.{std.proofs.Common.{◌≡◌, ◌+◌, drop, map, sum_by}, iodef_tree.specs.{View.{forest, bodies, body, members_forest}, inner.FitValues.line_count}}
use Rattle.iodef_tree.specs.inner.FitValues.{bodies_count, body_count}
use Rattle.redaction.proofs.limits.+room.Given as goal

abbrev pub invariant-member_room-loop-item : goal.invariant-member_room-loop-item
invariant-member_room-loop-item l = l.left + bodies_count (bodies l.member) ≡ l.room + sum_by body_count (map body (drop l.item-index l.item-items))

abbrev pub invariant-room_left-loop-name : goal.invariant-room_left-loop-name
invariant-room_left-loop-name l = l.left + line_count (forest l.object) ≡ l.room + line_count (members_forest (drop l._name-index l._name-items))
