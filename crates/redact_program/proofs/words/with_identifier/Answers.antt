use Rattle.redact_program.proofs.words.with_identifier.Goals as goal

pub returns : goal.returns
returns c = λ app built.
    let one = c.in_ok-command.ensures app _ built c.option-id.ensures in
    let two = c.in_ok-command-2.ensures _ _ one c.option-name.ensures in
    c.with_option-3.ensures _ _ two (c.not_beside.ensures _ c.option-now.ensures)
