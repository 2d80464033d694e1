use Rattle.{std.proofs.Common.{List, [], ◌∷◌, ◌++◌, true, sym, ◌∙◌, ap, subst}, json_pointer.specs.declared.text.Text.Text}
use Rattle.iodef_tree.{proofs.Growing.grows-array, specs.{Built.Grows, View.body, declared.object.Member.Member}}
use Rattle.iodef_tree.proofs.builder.attach_array.Goals as goal

pub returns : goal.returns
returns c =
    let old = c.args.members.items in
    let n = c.args.name in
    let i = c.args.item in
    subst (λ (ms : List (Text × Member)). Grows old n true (body i) ms) (sym c.in_ok-push-2.ensures.items)
    (grows-array old n i c.push.new.self (c.in_ok-push.ensures.items ∙ ap (λ xs. xs ++ i ∷ []) c.new-items.ensures.items) c.requires.grown c.requires.numbered c.requires.filled c.requires.first)
