-- Lists that rise.
use Rattle.std.{proofs.{Common.{◌≡◌, ℕ, ◌+◌, ◌<◌, List, [], ◌∷◌, nat_cmp, arith}, lemmas.Bool.Decides.nat_tests}, specs.declared.cmp.Ordering.TheVariants.Less}
use Rattle.{sqlite_trees.{proofs.ListLemmas.all_weaker, specs.Tree.IsAscending}, circle.specs.Sound.{Pairwise, CountsFrom}}
use Rattle.{hub_state.proofs.Keeping.numbers_above, hub_store.proofs.Rows.Lists.Rises}

pub less : (m n : ℕ) → m < n → nat_cmp m n ≡ Less
less m n h = grind (arith, nat_tests)

pub rising : {X : Type 0} (R : X → X → Type 0) (xs : List X) → Pairwise R xs → IsAscending R xs
rising R [] up = tt
rising R (x ∷ xs) up = (up.0, rising R xs up.1)

-- numbers that count on rise
pub counted : {X : Type 0} (number : X → ℕ) (n : ℕ) (xs : List X) → CountsFrom number n xs → Rises nat_cmp number xs
counted number n [] counts = tt
counted number n (x ∷ xs) counts =
    (all_weaker (λ y. n + 1 < number y) (λ y. nat_cmp (number x) (number y) ≡ Less) (λ y h. behind (number x) (number y) counts.0 h) xs (numbers_above number (n + 1) xs counts.1), counted number (n + 1) xs counts.1)
  where
    behind : (a b : ℕ) → a ≡ n + 1 → n + 1 < b → nat_cmp a b ≡ Less
    behind a b e h = less a b (omega (arith, e, h))
