use Rattle.redact_program.proofs.words.marks.Goals as goal

pub returns : goal.returns
returns c = c.with_option.ensures _ _ c.command-marks.ensures c.incident.ensures
