use Rattle.{std.proofs.Common.{◌≡◌, ◌-◌, List, [], ◌∷◌, length, slice_index_or, slice_set, refl, ap, sub-one, ◌∙◌}, iodef_tree.specs.declared.line.Line.Line}
use Rattle.{policy.specs.declared.standing.Standing.Standing, redact.specs.declared.{open_classes.{Open.Open, Sight.Sight}, want.Want.Want}}
use Rattle.redact.specs.inner.Seeking.{holding, innermost_holding}
use Rattle.redact.proofs.open_classes.hold.Goals as goal

held-at_end : (k : Sight) (s : Standing) (w : Want) (l : Line) (x : Open) (xs : List Open) (d : Open) → slice_set (x ∷ xs) (length xs) (holding k s w l (slice_index_or (x ∷ xs) (length xs) d)) ≡ innermost_holding k s w l (x ∷ xs)
held-at_end k s w l x [] d = refl
held-at_end k s w l x (y ∷ xs) d = ap (λ ys. x ∷ ys) (held-at_end k s w l y xs d)

-- the last class of a list holds the line
held-last : (k : Sight) (s : Standing) (w : Want) (l : Line) (xs : List Open) (d : Open) → slice_set xs (length xs - 1) (holding k s w l (slice_index_or xs (length xs - 1) d)) ≡ innermost_holding k s w l xs
held-last k s w l [] d = refl
held-last k s w l (x ∷ xs) d = rw sub-one (held-at_end k s w l x xs d)

pub returns-in-Some : goal.returns-in-Some
returns-in-Some c =
    let xs = c.args.classes.now in
    let k = c.args.sight in
    let s = c.args.standing.now in
    let w = c.args.want.now in
    let l = c.args.line.now in
    ap (λ m. slice_set xs (length xs - 1) m) (c.with.ensures ∙ ap (holding k s w l) c.in-Some.ensures.item.1) ∙ held-last k s w l xs c.in-Some.innermost.now
