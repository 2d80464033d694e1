use Rattle.redact_program.proofs.words.finds.Goals as goal

pub returns : goal.returns
returns c =
    let one = c.in_ok-about_reader.ensures _ c.command-finds.ensures in
    c.with_option-2.ensures _ _ (c.in_ok-finds.ensures _ _ one c.word-text.ensures) c.option-class.ensures
