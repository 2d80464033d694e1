use Rattle.redact_c.proofs.Several.{delivers-each}
use Rattle.redact_c.proofs.iodef_redact_excerpts_into.Goals as goal

pub returns : goal.returns
returns c =
    delivers-each c.answers_of-answers.result _ _ _ _ _ _ _ c.answers_of-answers.ensures.answers c.answers_of-answers.ensures.joined
    c.deliver_each.ensures.placed c.deliver_each.ensures.each_told c.deliver_each.ensures.answered c.deliver_each.ensures.numbered
    c.deliver_each.ensures.each_refused c.deliver_each.ensures.uncounted c.deliver_each.ensures.untouched
