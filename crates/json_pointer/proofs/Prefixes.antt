-- `starts_with` on tokens is `is_prefix`.
use Rattle.{std.{proofs.Common.{◌≡◌, [], ◌∷◌, ◌&&◌, refl, ap, bytes_eq}, specs.List.starts_with}, json_pointer.specs.Text.{Tokens, is_prefix}}

pub starts_with-is_prefix : (p q : Tokens) → starts_with bytes_eq p q ≡ is_prefix q p
starts_with-is_prefix p [] = refl
starts_with-is_prefix [] (x ∷ q) = refl
starts_with-is_prefix (y ∷ p) (x ∷ q) = ap (λ b. bytes_eq x y && b) (starts_with-is_prefix p q)
