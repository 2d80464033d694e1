use Rattle.{std.proofs.Common.arith, iodef_tree.proofs.Counts.counting}
use Rattle.redaction.proofs.limits.+room.Goals as goal

pub member_room-returns-in_err-left-in-Many-clause-none : goal.member_room-returns-in_err-left-in-Many-clause-none
member_room-returns-in_err-left-in-Many-clause-none t c = grind (arith, counting)

pub member_room-loop-item-preserved : goal.member_room-loop-item-preserved
member_room-loop-item-preserved t c = grind (arith, counting)

pub member_room-returns-after-loop-item-clause-some : goal.member_room-returns-after-loop-item-clause-some
member_room-returns-after-loop-item-clause-some t c = grind (arith, counting)

pub room_left-returns-in_err-left-clause-none : goal.room_left-returns-in_err-left-clause-none
room_left-returns-in_err-left-clause-none t c = grind (arith, counting)

pub room_left-loop-name-preserved : goal.room_left-loop-name-preserved
room_left-loop-name-preserved t c = grind (arith, counting)

pub room_left-returns-clause-some : goal.room_left-returns-clause-some
room_left-returns-clause-some t c = grind (arith, counting)
