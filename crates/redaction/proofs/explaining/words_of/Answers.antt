use Rattle.{std.proofs.Common.{sym, ap, subst, ◌∙◌}, redaction.{proofs.Beside.beside-yields, specs.{Answers.pointer_of, Described.described, Outcome.Yields}}}
use Rattle.redaction.specs.Outcome.{both}
use Rattle.redaction.proofs.explaining.words_of.Goals as goal

pub returns : goal.returns
returns c =
    subst (λ q. Yields q (both (described c.args.description.now) (pointer_of c.args.pointer.now))) (sym (c.beside.ensures ∙ ap (λ q. both q c.pointer_of.result) c.answer_of.ensures))
    (beside-yields c.read_view-view.result c.pointer_of.result _ _ c.read_view-view.ensures c.pointer_of.ensures)
