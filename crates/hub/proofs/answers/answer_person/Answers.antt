use Rattle.{std.proofs.Common.{sym, ◌∙◌}, hub.proofs.Served.served_reading}
use Rattle.hub.proofs.answers.answer_person.Goals as goal

pub returns-in-Some-clause-step : goal.returns-in-Some-clause-step
returns-in-Some-clause-step g c = λ clean s has sound there org.
    let read = c.in_ok-reply.ensures in
    served_reading read.kept clean s c.args.asker.now c.args.asker.person.now c.args.request.now c.in-Some.reply has (sym c.in-Some.is ∙ read.value clean s has sound there)
