use Rattle.{std.proofs.Common.{sym, ap₂, ◌∙◌}, json.specs.Value.value_view, redaction.{proofs.FirstFaults.short-fault, specs.Readings.◌&◌}}
use Rattle.redaction.proofs.short.short_in.Goals as goal

pub returns-in-Err : goal.returns-in-Err
returns-in-Err c =
    let names = c.both.ensures ∙ ap₂ (λ a b. a & b) c.only-names.ensures c.wanted_handling-clearance.ensures in
    let others = c.both-others.ensures ∙ ap₂ (λ a b. a & b) c.number_or_zero.ensures c.in_ok-now.ensures in
    short-fault (value_view c.args.value.now) c.in-Err.refusal c.args.is_dated (sym (c.both-2.ensures ∙ ap₂ (λ a b. a & b) names others) ∙ c.in-Err.is)
