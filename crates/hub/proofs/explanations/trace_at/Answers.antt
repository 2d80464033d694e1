use Rattle.{std.proofs.Common.{◌≡◌, IfOk, Some, string_bytes, ap, subst, ◌∙◌}, explain.specs.{Explanation.explanation, Lines.trace_text}}
use Rattle.hub.proofs.Explained.{text_of_explained}
use Rattle.hub.proofs.explanations.trace_at.Goals as goal

pub returns-in_ok-text-in-Ok-clause-told : goal.returns-in_ok-text-in-Ok-clause-told
returns-in_ok-text-in-Ok-clause-told c =
    let trace = c.in-Ok.trace in
    let said : string_bytes c.in_ok-text-in-Ok.text ≡ trace_text (explanation trace) = subst (λ r. IfOk r (λ x. string_bytes x ≡ trace_text (explanation trace))) c.in_ok-text-in-Ok.ensures.value c.text.ensures in
    ap Some (c.new.ensures ∙ said) ∙ text_of_explained c.args.document.now c.args.case.now c.args.standing.now c.args.path.now (explanation trace) c.in-Ok.ensures
