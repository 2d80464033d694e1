use Rattle.{std.proofs.Common.{ap, ap₂, ◌∙◌}, json.specs.Value.value_view, redaction.{proofs.FirstFaults.long-is, specs.{Described.now_in, Readings.◌&◌}}}
use Rattle.redaction.proofs.view.long_in.Goals as goal

pub returns : goal.returns
returns c =
    let now = c.in_ok-now.ensures ∙ ap (λ b. now_in b (value_view c.args.value.now)) c.is_moment_wanted.ensures in
    let w = c.both-when.ensures ∙ ap₂ (λ a b. a & b) now c.number_or_zero.ensures in
    let names = c.both.ensures ∙ ap₂ (λ a b. a & b) c.only-names.ensures w in
    let whom = c.both-2.ensures ∙ ap₂ (λ a b. a & b) c.in_ok-case.ensures c.in_ok-reader.ensures in
    c.view_read.ensures ∙ long-is c.args.is_dated (value_view c.args.value.now) c.both-3.result (c.both-3.ensures ∙ ap₂ (λ a b. a & b) names whom)
