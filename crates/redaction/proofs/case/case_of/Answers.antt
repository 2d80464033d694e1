use Rattle.{std.proofs.Common.{sym, ap₂, ◌∙◌}, json.specs.Value.value_view, redaction.{proofs.FirstFaults.case-fault, specs.Readings.◌&◌}}
use Rattle.redaction.proofs.case.case_of.Goals as goal

pub returns-in-Err : goal.returns-in-Err
returns-in-Err c =
    let whose = c.both-whose.ensures ∙ ap₂ (λ a b. a & b) c.wanted_number.ensures c.given_number.ensures in
    let names = c.both.ensures ∙ ap₂ (λ a b. a & b) c.only-names.ensures whose in
    let lists = c.both-2.ensures ∙ ap₂ (λ a b. a & b) c.in_ok-gates.ensures c.in_ok-permissions.ensures in
    case-fault (value_view c.args.value.now) c.in-Err.refusal (sym (c.both-3.ensures ∙ ap₂ (λ a b. a & b) names lists) ∙ c.in-Err.is)
