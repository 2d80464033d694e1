-- One more row exchanged.
use Rattle.std.proofs.{Common.{◌≡◌, ℕ, ◌+◌, ◌<◌, List, ◌++◌, map, take, drop, get_or, length, ap, ◌∙◌, arith}, Math.ListN.set, lemmas.List.get_or_default}
use Rattle.std.proofs.lemmas.List.Edits.{map_over_more}

pub exchanged_more : {X : Type 0} (f : X → X) (xs ys : List X) (i : ℕ) (d y : X) → i < length ys → length ys ≡ length xs → ys ≡ map f (take i xs) ++ drop i xs → y ≡ f (get_or ys i d) → set ys i y ≡ map f (take (i + 1) xs) ++ drop (i + 1) xs
exchanged_more f xs ys i d y within same so_far is =
    let x = get_or ys i d in
    ap (λ z. set ys i z) is ∙ map_over_more f xs ys i x (omega arith) so_far (get_or_default ys i d x within)
