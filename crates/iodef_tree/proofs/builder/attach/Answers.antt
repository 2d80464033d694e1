use Rattle.{std.proofs.Common.{List, Bool, false, sym, subst}, json_pointer.specs.declared.text.Text.Text, iodef_tree.proofs.Growing.grows-one}
use Rattle.iodef_tree.specs.{Built.Grows, View.body, declared.object.Member.Member}
use Rattle.iodef_tree.proofs.builder.attach.Goals as goal

pub returns : goal.returns
returns c =
    let old = c.args.members.items in
    let n = c.args.name in
    let b = body c.args.item in
    subst (λ (a : Bool). Grows old n a b c.push.new.self.items) (sym c.if-in_array.false)
    (subst (λ (ms : List (Text × Member)). Grows old n false b ms) (sym c.in_ok-push.ensures.items) (grows-one old n c.args.item c.requires.grown c.requires.numbered c.requires.filled))
