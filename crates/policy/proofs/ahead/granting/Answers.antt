use Rattle.std.proofs.{Common.arith, lemmas.Grind.common_steps}
use Rattle.policy.proofs.ahead.granting.Goals as goal

pub loop-permission-preserved : goal.loop-permission-preserved
loop-permission-preserved c = grind (arith, common_steps)

pub returns : goal.returns
returns c = grind (arith, common_steps)
