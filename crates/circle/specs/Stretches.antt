-- Rows in the order of a key; those with one key are next to each other.
use Rattle.std.specs.Prelude.{◌≡◌, ℕ, Bool, false, ◌&&◌, ◌==◌, List, filter}
use Rattle.std.specs.Ordering.{is_lt}
use Rattle.circle.specs.Ordered.{by_pair}
use Rattle.circle.specs.Sound.{Pairwise}

-- whether two pairs of numbers are the same
abbrev pub same_pair : ℕ × ℕ → ℕ × ℕ → Bool
same_pair a b = a.0 == b.0 && a.1 == b.1

-- a number as a key: 0 and the number
abbrev pub numbered : {X : Type 0} → (X → ℕ) → X → ℕ × ℕ
numbered number x = (0, number x)

-- no row is below an earlier one
abbrev pub Ascend : {X : Type 0} → (X → ℕ × ℕ) → List X → Type 0
Ascend key rows = Pairwise (λ a b. is_lt (by_pair key b a) ≡ false) rows

-- the rows with this key
abbrev pub having : {X : Type 0} → (X → ℕ × ℕ) → ℕ × ℕ → List X → List X
having key k rows = filter (λ x. same_pair (key x) k) rows
