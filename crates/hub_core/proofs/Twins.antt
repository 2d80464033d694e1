-- A loop that finds two equal elements of a list.
use Rattle.std.{proofs.Common.{◌≡◌, ℕ, suc, ◌+◌, ◌<◌, List, ◌∷◌, ◌||◌, map, length, drop, drop-cons, get_or, add-one, sym, ap, ◌∙◌}, specs.List.list_any}
use Rattle.{std.specs.Str.bytes_eq, iodef_tree.specs.Text.Bytes, hub_core.specs.Refusals.stands_twice}
pub use Rattle.hub_state.proofs.Keeping.{any_map}

-- from an element on, as at a step of a loop
pub from_here : {X : Type 0} (xs : List X) (i : ℕ) (x : X) → i < length xs → x ≡ get_or xs i x → drop i xs ≡ x ∷ drop (i + 1) xs
from_here xs i x h is = rw add-one (drop-cons xs i x h ∙ ap (λ y. y ∷ drop (suc i) xs) (sym is))

-- two of the texts from an element on are equal: it and a later one, or two later ones
pub twins_here : {X : Type 0} (f : X → Bytes) (xs : List X) (i : ℕ) (x : X) → i < length xs → x ≡ get_or xs i x →
    stands_twice (map f (drop i xs)) ≡ (list_any (λ y. bytes_eq (f x) (f y)) (drop (i + 1) xs) || stands_twice (map f (drop (i + 1) xs)))
twins_here f xs i x h is = rw (from_here xs i x h is) (ap (λ b. b || stands_twice (map f (drop (i + 1) xs))) (any_map (bytes_eq (f x)) f (drop (i + 1) xs)))
