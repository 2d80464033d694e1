-- What a binary search finds in numbers that rise.
use Rattle.std.proofs.Common.{◌≡◌, ◌⊎◌, inl, inr, ℕ, suc, ◌<◌, ◌≤◌, List, [], ◌∷◌, length, get_or, false, ◌||◌, ◌==◌, Result, Ok, Err, is_ok, MatchResult}
use Rattle.std.proofs.{Common.{nat_cmp, refl, sym, ap, subst, ◌∙◌, arith}, lemmas.{Bool.{cases_lt, eq-eqb, ne_eqb}, List.{Folds.list_any_at, Sorted.searched}}}
use Rattle.{std.specs.List.Sorted.IsBinarySearchResult, sqlite_trees.proofs.ListLemmas.ascending-get_or, hub_store.specs.inner.ShownPairs.AreRising}
use Rattle.hub_store.specs.inner.ShownPairs.{is_one_of}

not_falling : (xs : List ℕ) → AreRising xs → (i j : ℕ) → i ≤ j → j < length xs → get_or xs i 0 ≤ get_or xs j 0
not_falling xs up i j le low = go (cases_lt i j)
  where
    go : (i < j) ⊎ (j ≤ i) → get_or xs i 0 ≤ get_or xs j 0
    go (inl less) = let below = ascending-get_or (λ (a b : ℕ). a < b) xs i j 0 up less low in omega (arith, below)
    go (inr back) = let same : i ≡ j = omega arith in subst (λ k. get_or xs i 0 ≤ get_or xs k 0) same (omega arith)

none_at : (x : ℕ) (xs : List ℕ) → ((k : ℕ) → k < length xs → get_or xs k 0 ≡ x → ⊥) → is_one_of xs x ≡ false
none_at x [] never = refl
none_at x (y ∷ ys) never = ap (λ b. b || is_one_of ys x) (ne_eqb y x (never 0 (omega arith))) ∙ none_at x ys (λ k low. never (suc k) (omega arith))

pub found_by_halving : (xs : List ℕ) (x : ℕ) (r : Result ℕ ℕ) → IsBinarySearchResult (λ y. nat_cmp y x) xs r → AreRising xs → is_ok r ≡ is_one_of xs x
found_by_halving xs x r position up = go r (searched xs x r position (not_falling xs up))
  where
    go : (r : Result ℕ ℕ) → MatchResult r (λ i. (i < length xs) × (get_or xs i 0 ≡ x)) (λ i. (i ≤ length xs) × ((k : ℕ) → k < i → get_or xs k 0 < x) × ((k : ℕ) → i ≤ k → k < length xs → x < get_or xs k 0)) → is_ok r ≡ is_one_of xs x
    go (Ok i) h = sym (list_any_at (λ m. m == x) xs i 0 h.0 (eq-eqb (get_or xs i 0) x h.1))
    go (Err i) h = sym (none_at x xs (λ k low is. elim (cases_lt k i) as (λ _. ⊥) [ inl under ↦ (let less = h.1 k under in omega (arith, less, is)) | inr over ↦ (let more = h.2 k over low in omega (arith, more, is)) ]))
