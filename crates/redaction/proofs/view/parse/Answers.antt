use Rattle.{std.proofs.Common.{ap, sym, ◌∙◌, Err}, redaction.proofs.Parsed.read-other}
use Rattle.redaction.proofs.view.parse.Goals as goal

pub returns-in-Err : goal.returns-in-Err
returns-in-Err c = λ _. read-other c.args.description.now c.in-Err.ensures.cases.0 ∙ sym (ap Err c.here.ensures)
