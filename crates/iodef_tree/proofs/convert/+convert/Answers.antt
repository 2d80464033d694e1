use Rattle.{std.proofs.{Common.{◌≡◌, ◌==◌, length, false, arith}, lemmas.Grind.common_steps}, iodef_tree.proofs.Converted.{many_member, object_done}}
use Rattle.iodef_tree.proofs.convert.+convert.Goals as goal

pub array_from-returns-in_ok-items_from : goal.array_from-returns-in_ok-items_from
array_from-returns-in_ok-items_from t c =
    let some : (length c.args.items.items == 0) ≡ false = grind arith in many_member c.in_ok-items_from.field-0 c.args.items.items some c.in_ok-items_from.ensures

pub object_from-returns : goal.object_from-returns
object_from-returns t c = let i = c.loop-name.invariant in object_done c.loop-name.made c.args.members.entries c.loop-name.name-iterator c.in-None.ensures.steps.0 i.made c.len.ensures.ordered i.ordered i.texts i.filled

pub items_from-loop-item-preserved : goal.items_from-loop-item-preserved
items_from-loop-item-preserved t c = grind (arith, common_steps)

pub items_from-returns : goal.items_from-returns
items_from-returns t c = grind (arith, common_steps)

pub object_from-loop-name-preserved : goal.object_from-loop-name-preserved
object_from-loop-name-preserved t c = grind (arith, common_steps)
