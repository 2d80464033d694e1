use Rattle.{std.proofs.{Common.{◌≡◌, List, [], ◌∷◌, ◌++◌, true, sym, ◌∙◌, ap, subst, arith}, lemmas.Slice.Eq.bytes_eq-Decides}, json_pointer.specs.Text.Bytes}
use Rattle.{json_pointer.specs.declared.text.Text.Text, iodef_tree.{proofs.Growing.{grows-element, first-behind_one, first-behind_many}, specs.Built.IsGrown}}
use Rattle.iodef_tree.specs.{Built.Grows, View.body, declared.object.Member.{Member, TheVariants.Many}}
use Rattle.iodef_tree.proofs.builder.attach_element.Goals as goal

pub attach_array-requires-in-One-clause-first : goal.attach_array-requires-in-One-clause-first
attach_array-requires-in-One-clause-first c = grind (arith, first-behind_one)

pub returns-then-eq : goal.returns-then-eq
returns-then-eq c =
    let P = c.pop.new.self.items in
    let last = c.in-Some.last in
    let items = c.in-Many.items in
    let b = body c.args.item in
    let new = c.push-then-eq-2.new.self.items in
    let was : c.args.members.items ≡ P ++ (last, Many items) ∷ [] = c.in-Some.ensures.items ∙ ap (λ (m : Member). let e : Text × Member = (last, m) in P ++ e ∷ []) c.in-Many.is in
    let same : last ≡ c.args.name = sym c.as_str.ensures ∙ (bytes_eq-Decides c.as_str.result.now c.as_str-in-Many.result.now).0 (sym c.eq.ensures ∙ c.if-eq.true) ∙ c.as_str-in-Many.ensures in
    let grown : IsGrown (P ++ (last, Many items) ∷ []) = subst IsGrown was c.requires.grown in
    subst (λ (n : Bytes). Grows c.args.members.items n true b new) same
    (subst (λ (ms : List (Text × Member)). Grows ms last true b new) (sym was)
    (subst (λ (ms : List (Text × Member)). Grows (P ++ (last, Many items) ∷ []) last true b ms) (sym c.in_ok-push-in-Many-2.ensures.items)
    (grows-element P last c.args.item items c.push-then-eq.new.self c.in_ok-push-in-Many.ensures.items grown c.requires.numbered c.requires.filled)))

pub attach_array-requires-in-Many-clause-first : goal.attach_array-requires-in-Many-clause-first
attach_array-requires-in-Many-clause-first c = grind (arith, first-behind_many)
