use Rattle.redact_program.proofs.words.about_reader.Goals as goal

pub returns : goal.returns
returns c = λ app built.
    let one = c.in_ok-command.ensures app _ built c.clearance.ensures in
    let two = c.in_ok-command-2.ensures _ _ one c.option-described.ensures in
    c.with_option-3.ensures _ _ two (c.not_beside.ensures _ c.incident.ensures)
