use Rattle.std.proofs.{Common.{sym, ◌∙◌, ap, rules, tests}, lemmas.Iterator.{YieldsList-from_slice, Search.any_from_yields_List}}
use Rattle.{iodef_tree.{proofs.Views.bodies-Many, specs.{View.{body, bodies}, declared.object.Item.Item}}, redact.proofs.Searching.any_map}
use Rattle.redact.specs.inner.Search.{body_hits, bodies_hit}
use Rattle.redact.proofs.search.member_hits.Goals as goal

pub returns-in-Many : goal.returns-in-Many
returns-in-Many c =
    let n = c.args.finder.now in
    let v = c.in-Many.items in
    let test = λ (i : Item). body_hits n (body i) in
    any_from_yields_List test _ _ c.any.result c.any.ensures.ran (YieldsList-from_slice v.items cc) (λ x b q k. search (rules, tests))
    ∙ sym (any_map (body_hits n) body v.items)
    ∙ ap (bodies_hit n) (sym (bodies-Many v))
    ∙ ap (λ m. bodies_hit n (bodies m)) (sym c.in-Many.is)
