use Rattle.{std.proofs.Common.{sym, ◌∙◌, ap, subst}, iodef_tree.{proofs.Views.body-Text, specs.View.body}, memchr.specs.Find.FindsNeedle}
use Rattle.redact.{proofs.Needles.finds_has, specs.inner.Search.body_hits}
use Rattle.redact.proofs.search.hits.Goals as goal

pub returns-in-Text : goal.returns-in-Text
returns-in-Text c =
    let n = c.args.finder.now in
    let text = c.in-Text.text in
    let same = c.as_bytes.ensures.value ∙ c.as_str.ensures in
    c.is_some.ensures
    ∙ finds_has n text c.find.result (subst (λ t. FindsNeedle t n 0 c.find.result) same c.find.ensures)
    ∙ ap (body_hits n) (sym (body-Text text))
    ∙ ap (λ i. body_hits n (body i)) (sym c.in-Text.is)
