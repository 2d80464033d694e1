use Rattle.{std.proofs.Common.{◌≡◌, ◌-◌, List, [], ◌∷◌, length, slice_index_or, slice_set, refl, ap, sub-one, ◌∙◌}, iodef_tree.specs.declared.line.Line.Line}
use Rattle.redact.specs.{Marked.{held_with, innermost_held_with}, declared.marks.Marking.Marking}
use Rattle.redact.proofs.marks.hold.Goals as goal

held-at_end : (l : Line) (x : Marking) (xs : List Marking) (d : Marking) → slice_set (x ∷ xs) (length xs) (held_with l (slice_index_or (x ∷ xs) (length xs) d)) ≡ innermost_held_with l (x ∷ xs)
held-at_end l x [] d = refl
held-at_end l x (y ∷ xs) d = ap (λ ys. x ∷ ys) (held-at_end l y xs d)

-- the last class of a list holds the line
held-last : (l : Line) (xs : List Marking) (d : Marking) → slice_set xs (length xs - 1) (held_with l (slice_index_or xs (length xs - 1) d)) ≡ innermost_held_with l xs
held-last l [] d = refl
held-last l (x ∷ xs) d = rw sub-one (held-at_end l x xs d)

pub returns-in-Some : goal.returns-in-Some
returns-in-Some c =
    let xs = c.args.classes.now in
    let l = c.args.line.now in
    ap (λ m. slice_set xs (length xs - 1) m) (c.with.ensures ∙ ap (held_with l) c.in-Some.ensures.item.1) ∙ held-last l xs c.in-Some.innermost.now
