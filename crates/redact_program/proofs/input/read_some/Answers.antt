use Rattle.redact_program.proofs.Reading.{takes_more}
use Rattle.redact_program.proofs.input.read_some.Goals as goal

pub returns-in-Err : goal.returns-in-Err
returns-in-Err g c = takes_more _ _ _ _ c.loop.invariant.reads c.in-Err.ensures.failed
