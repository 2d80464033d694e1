use Rattle.{std.proofs.Common.{ap, sym, ◌∙◌, Err, rules}, json.specs.Value.value_view, redaction.proofs.Parsed.{read-once, read-doubled, read-none}}
use Rattle.redaction.proofs.view.parse_text.Goals as goal

pub returns-in-Ok : goal.returns-in-Ok
returns-in-Ok c = read-once c.args.text.now (value_view c.in-Ok.value) c.utf8.text c.in-Ok.ensures.ok c.in-Ok.ensures.unique

pub returns-in-Err-Invalid : goal.returns-in-Err-Invalid
returns-in-Err-Invalid c = λ _. read-none c.args.text.now c.utf8.text (c.parse_strict.ensures.invalid (search rules)) ∙ sym (ap Err c.here.ensures)

pub returns-in-Err-DuplicateKey : goal.returns-in-Err-DuplicateKey
returns-in-Err-DuplicateKey c = λ _. read-doubled c.args.text.now c.utf8.text (c.parse_strict.ensures.duplicate (search rules)) ∙ sym (ap Err c.here-in-Err-DuplicateKey.ensures)
