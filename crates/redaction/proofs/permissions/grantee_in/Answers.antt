use Rattle.{std.proofs.Common.{sym, ap₂, ◌∙◌}, json.specs.Value.value_view, redaction.{proofs.FirstFaults.grantee-fault, specs.Readings.◌&◌}}
use Rattle.redaction.proofs.permissions.grantee_in.Goals as goal

pub returns-in-Err : goal.returns-in-Err
returns-in-Err c =
    let one = c.both-one.ensures ∙ ap₂ (λ a b. a & b) c.given_number.ensures c.given_number-2.ensures in
    let many = c.both-many.ensures ∙ ap₂ (λ a b. a & b) c.given_number-3.ensures c.given_number-4.ensures in
    grantee-fault (value_view c.args.value.now) c.in-Err.refusal (sym (c.both.ensures ∙ ap₂ (λ a b. a & b) one many) ∙ c.in-Err.is)
