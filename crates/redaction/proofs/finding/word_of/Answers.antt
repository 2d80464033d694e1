use Rattle.redaction.proofs.Parsed.{word-is, no-word}
use Rattle.redaction.proofs.finding.word_of.Goals as goal

pub returns-in-Ok : goal.returns-in-Ok
returns-in-Ok c = word-is c.args.bytes.now c.in-Ok.text.now c.in-Ok.ensures.cases.0 c.in-Ok.ensures.cases.1

pub returns-in-Err : goal.returns-in-Err
returns-in-Err c = λ _. no-word c.args.bytes.now c.in-Err.ensures.cases.0
