-- Lists in the order of a key, which several rows may share.
use Rattle.std.specs.Prelude.{◌≡◌, ◌≤◌, ℕ, Bool, false, not, List, length, filter, slice_range}
use Rattle.std.specs.List.{remove_range}
use Rattle.std.specs.declared.cmp.Ordering.{Ordering}
use Rattle.std.specs.Ordering.{is_lt, is_eq}
use Rattle.circle.specs.Sound.{Pairwise}

-- no row is below one before it
abbrev pub IsInOrder : {X : Type 0} → (X → X → Ordering) → List X → Type 0
IsInOrder cmp = Pairwise (λ a b. is_lt (cmp b a) ≡ false)

-- neither row is below the other
abbrev pub is_alike : {X : Type 0} → (X → X → Ordering) → X → X → Bool
is_alike cmp a b = is_eq (cmp a b)

-- the rows from one place up to another are those that pass a test
pub record IsStretch {X : Type 0} (test : X → Bool) (rows : List X) (from to : ℕ) : Type 0 where
  pub rising : from ≤ to
  pub within : to ≤ length rows
  pub is : slice_range rows from to ≡ filter test rows
  pub without : remove_range rows from to ≡ filter (λ x. not (test x)) rows
