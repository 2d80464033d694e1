use Rattle.{std.proofs.Common.{sym, ap₂, ◌∙◌}, json.specs.Value.value_view, redaction.{proofs.FirstFaults.reader-fault, specs.Readings.◌&◌}}
use Rattle.redaction.proofs.reader.reader_of.Goals as goal

pub returns-in-Err : goal.returns-in-Err
returns-in-Err c =
    let flags = c.both-flags.ensures ∙ ap₂ (λ a b. a & b) c.only_known.ensures c.flags_in.ensures in
    let numbers = c.both-numbers.ensures ∙ ap₂ (λ a b. a & b) c.wanted_number.ensures c.wanted_number-2.ensures in
    let others = c.both-others.ensures ∙ ap₂ (λ a b. a & b) c.given_handling.ensures c.in_ok-lists.ensures in
    let front = c.both.ensures ∙ ap₂ (λ a b. a & b) flags numbers in
    reader-fault (value_view c.args.value.now) c.in-Err.refusal (sym (c.both-2.ensures ∙ ap₂ (λ a b. a & b) front others) ∙ c.in-Err.is)
