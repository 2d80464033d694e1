use Rattle.{std.proofs.{Common.arith, lemmas.Grind.common_steps}, iodef_tree.proofs.Seeking.{seeking, first_at-none, first_at-some}}
use Rattle.iodef_tree.proofs.unfit_values.+seek.Goals as goal

pub first_in_items-returns-in-Some : goal.first_in_items-returns-in-Some
first_in_items-returns-in-Some t c = grind (arith, common_steps, first_at-none, first_at-some)

pub first_in_members-returns-in-Some-2 : goal.first_in_members-returns-in-Some-2
first_in_members-returns-in-Some-2 t c = grind (arith, first_at-none, first_at-some)

pub first_in_items-loop-index-preserved : goal.first_in_items-loop-index-preserved
first_in_items-loop-index-preserved t c = grind (arith, seeking)

pub first_in_items-returns : goal.first_in_items-returns
first_in_items-returns t c = grind (arith, seeking)

pub first_in_members-loop-name-preserved : goal.first_in_members-loop-name-preserved
first_in_members-loop-name-preserved t c = grind (arith, seeking)
