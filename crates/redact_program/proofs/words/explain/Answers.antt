use Rattle.redact_program.proofs.words.explain.Goals as goal

pub returns : goal.returns
returns c = c.with_option.ensures _ _ (c.in_ok-about_reader.ensures _ c.command-explain.ensures) c.word-pointer.ensures
