use Rattle.redact_program.proofs.Writing.{goes_on}
use Rattle.redact_program.proofs.output.put.Goals as goal

pub loop-preserved : goal.loop-preserved
loop-preserved g c = goes_on _ _ _ _ _ _ _ _ c.loop.invariant.1 c.loop.invariant.2 c.in-Ok.ensures.ok.1 c.in-Ok.ensures.ok.2
