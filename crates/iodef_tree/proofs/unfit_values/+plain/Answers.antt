use Rattle.{std.proofs.Common.arith, iodef_tree.proofs.Seeking.seeking}
use Rattle.iodef_tree.proofs.unfit_values.+plain.Goals as goal

pub are_items_plain-returns-then-not-is_plain : goal.are_items_plain-returns-then-not-is_plain
are_items_plain-returns-then-not-is_plain t c = grind (arith, seeking)

pub are_items_plain-loop-item-preserved : goal.are_items_plain-loop-item-preserved
are_items_plain-loop-item-preserved t c = grind (arith, seeking)

pub are_items_plain-returns : goal.are_items_plain-returns
are_items_plain-returns t c = grind (arith, seeking)

pub are_members_plain-returns-then-not-is_plain : goal.are_members_plain-returns-then-not-is_plain
are_members_plain-returns-then-not-is_plain t c = grind (arith, seeking)

pub are_members_plain-loop-name-preserved : goal.are_members_plain-loop-name-preserved
are_members_plain-loop-name-preserved t c = grind (arith, seeking)
