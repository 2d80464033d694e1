use Rattle.{std.proofs.{Common.arith, lemmas.Grind.common_steps}, redaction.proofs.SpelledLabels.highest-is}
use Rattle.redaction.proofs.highest.highest.Goals as goal

pub returns : goal.returns
returns c = grind (arith, common_steps, highest-is)
