use Rattle.std.{proofs.{Common.{List, subst, ◌≡◌, ◌∷◌, take, drop, sym, ◌∙◌, ap}, lemmas.List.map-append}, specs.List.AllByRecursion}
use Rattle.iodef_tree.proofs.{Filled.{made-filled, members-filled, filled-One, filled-Text}, Views.{forest-members, forest-made, bodies-One, body-Text}}
use Rattle.iodef_tree.specs.{Filled.IsMemberFilled, Text.Bytes, Tree.{Bodies, one}, View.{bodies, named}, declared.object.{Item.Text, Member.{Member, One}}}
use Rattle.redact.{proofs.Filling.inserted-filled, specs.inner.Saying.saying}
use Rattle.redact.proofs.attributes.with_attribute.Goals as goal

pub returns-clause-put : goal.returns-clause-put
returns-clause-put c =
    let D = c.deref.result.now in
    let r = c.place_for-at.result in
    let name = c.args.name.now in
    let text = c.args.text.now in
    let value = c.new.result in
    let e : Bytes × Member = (c.new-2.result, One (Text value)) in
    let said : bodies (One (Text value)) ≡ saying text = bodies-One (Text value) ∙ ap one (body-Text value) ∙ ap saying (c.new.ensures ∙ c.in_ok-from_str.ensures.ok) in
    let named_is : named e ≡ (name, saying text) =
    ap (λ (n : Bytes). let m : Bytes × Bodies = (n, bodies (One (Text value))) in m) (c.new-2.ensures ∙ c.in_ok-from_str-2.ensures.ok) ∙ ap (λ (b : Bodies). let m : Bytes × Bodies = (name, b) in m) said in
    cc (
      forest-made c.insert.new.self,
      forest-members c.args.object,
      c.in_ok-insert.ensures.items,
      c.deref.ensures.value,
      map-append named (take r D) (e ∷ drop r D),
      named_is,
      c.place_for-at.ensures.splits text,
    )

pub place_for-at-requires : goal.place_for-at-requires
place_for-at-requires c = subst (λ (ms : List (Bytes × Member)). AllByRecursion (λ m. IsMemberFilled m.1) ms) (sym c.deref.ensures.value) (members-filled c.args.object c.requires)

pub returns-clause-filled : goal.returns-clause-filled
returns-clause-filled c =
    let value = c.new.result in
    let e : Bytes × Member = (c.new-2.result, One (Text value)) in
    made-filled c.insert.new.self
    (subst (λ (ms : List (Bytes × Member)). AllByRecursion (λ m. IsMemberFilled m.1) ms) (sym c.in_ok-insert.ensures.items)
    (inserted-filled c.args.object.members.items c.place_for-at.result e (members-filled c.args.object c.requires) (filled-One (Text value) ∙ filled-Text value)))
