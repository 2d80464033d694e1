use Rattle.std.proofs.{Common.arith, lemmas.Grind.common_steps}
use Rattle.policy.proofs.ahead.refusing.Goals as goal

pub loop-gate-preserved : goal.loop-gate-preserved
loop-gate-preserved c = grind (arith, common_steps)

pub returns : goal.returns
returns c = grind (arith, common_steps)
