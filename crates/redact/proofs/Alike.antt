-- Places in an array with the same digits.
use Rattle.std.proofs.{Common.{◌≡◌, ◌==◌, ℕ, ◌<◌, ◌^◌, decimal, ap, bytes_eq}, lemmas.Bool.Decides.{Decides-eqb, Decides-like, same_from_decides}}
use Rattle.std.proofs.lemmas.{Fmt.decimal_injective, Slice.Eq.bytes_eq-Decides}

pub places-alike : (j k : ℕ) → j < 2 ^ 64 → k < 2 ^ 64 → (j == k) ≡ bytes_eq (decimal j) (decimal k)
places-alike j k small less =
    same_from_decides (j == k) (bytes_eq (decimal j) (decimal k)) (Decides-eqb j k)
    (Decides-like (bytes_eq (decimal j) (decimal k)) (decimal_injective j k small less) (ap decimal) (bytes_eq-Decides (decimal j) (decimal k)))
