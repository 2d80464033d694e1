use Rattle.redact_program.proofs.words.excerpt.Goals as goal

pub returns : goal.returns
returns c =
    let one = c.in_ok-excerpt.ensures _ c.command-excerpt.ensures in
    let two = c.in_ok-excerpt-2.ensures _ _ one (c.not_beside.ensures _ c.flag-document.ensures) in
    let three = c.in_ok-excerpt-3.ensures _ _ two c.flag-whole.ensures in
    c.with_identifier.ensures _ three
