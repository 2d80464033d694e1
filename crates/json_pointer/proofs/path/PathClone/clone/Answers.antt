use Rattle.std.proofs.{Common.arith, lemmas.Grind.common_steps}
use Rattle.json_pointer.proofs.path.PathClone.clone.Goals as goal

pub loop-token-preserved : goal.loop-token-preserved
loop-token-preserved c = grind (arith, common_steps)

pub returns : goal.returns
returns c = grind (arith, common_steps)
