use Rattle.{std.proofs.Common.refl, redact_program.specs.Words.{excerpt_command, explain_command, finds_command, marks_command}}
use Rattle.redact_program.proofs.words.program.Goals as goal

pub returns : goal.returns
returns c =
    let one = c.in_ok-program.ensures _ excerpt_command c.requiring.ensures refl c.excerpt.ensures in
    let two = c.in_ok-program-2.ensures _ explain_command one refl c.explain.ensures in
    let three = c.in_ok-program-3.ensures _ finds_command two refl c.finds.ensures in
    c.with-4.ensures _ marks_command three refl c.marks.ensures
