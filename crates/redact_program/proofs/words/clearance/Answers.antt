use Rattle.redact_program.proofs.Commands.{required}
use Rattle.redact_program.proofs.words.clearance.Goals as goal

pub returns : goal.returns
returns c = c.not_beside.ensures _ (required c.option-clearance.result c.in_ok-required_unless_present.field-0 _ _ c.in_ok-required_unless_present.ensures c.option-clearance.ensures)
