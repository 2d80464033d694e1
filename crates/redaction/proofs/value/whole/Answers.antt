use Rattle.{std.proofs.Common.{ap, ◌∙◌, rules, Err}, redaction.proofs.Numbers.too_large}
use Rattle.redaction.proofs.value.whole.Goals as goal

pub returns-in-Err : goal.returns-in-Err
returns-in-Err c = ap Err c.here-in-Err.ensures ∙ too_large c.args.text.now c.in-Err.field-0 (search rules) (c.in-Err.ensures.value.0)
