use Rattle.std.proofs.Common.{Ok, Err, ap}
use Rattle.redact_program.proofs.input.read_view_file.Goals as goal

pub returns-in-Ok-clause-read : goal.returns-in-Ok-clause-read
returns-in-Ok-clause-read g c = (Ok c.in-Ok.bytes.items, c.in-Ok.ensures.gives, c.if_short.ensures)

pub returns-in-Err-clause-read : goal.returns-in-Err-clause-read
returns-in-Err-clause-read g c = (Err c.in-Err.kind, c.in-Err.ensures.gives, ap Err c.view_trouble.ensures)
