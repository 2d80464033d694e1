-- Two pairs of what is withheld are the same exactly if neither comes first.
use Rattle.std.proofs.Common.{◌≡◌, ◌&&◌, is_eq, sym, ◌∙◌, ap}
use Rattle.std.specs.Cmp.{tied_then}
use Rattle.std.specs.Cmp.Lexicographic.{slice_cmp}
use Rattle.std.specs.Ordering.{nat_cmp}
use Rattle.std.specs.Str.{bytes_eq}
use Rattle.std.proofs.lemmas.Map.Text.{is_eq-slice_cmp}
use Rattle.iodef_tree.specs.Pointer.{pointer_text}
use Rattle.policy.specs.Rule.{name_of}
use Rattle.redact.specs.Withheld.{Withheld, withheld_cmp, same_withheld}

-- two pairs are the same exactly if they compare as equal
pub withheld-ties : (x y : Withheld) → same_withheld x y ≡ is_eq (withheld_cmp x y)
withheld-ties x y =
    let places = slice_cmp nat_cmp (pointer_text x.0) (pointer_text y.0) in
    let names = slice_cmp nat_cmp (name_of x.1) (name_of y.1) in
    ap (λ b. b && bytes_eq (name_of x.1) (name_of y.1)) (sym (is_eq-slice_cmp (pointer_text x.0) (pointer_text y.0)))
    ∙ ap (λ b. is_eq places && b) (sym (is_eq-slice_cmp (name_of x.1) (name_of y.1)))
    ∙ tied_then places names
