use Rattle.std.proofs.{Common.arith, lemmas.Grind.common_steps}
use Rattle.iodef_tree.proofs.classes.push_steps.Goals as goal

pub returns-in_ok-push-2 : goal.returns-in_ok-push-2
returns-in_ok-push-2 c = grind (arith, common_steps)
