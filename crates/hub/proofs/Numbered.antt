-- Rows numbered from 1 without a gap.
use Rattle.std.proofs.Common.{◌≡◌, inl, inr, ℕ, zero, suc, ◌+◌, ◌<◌, ◌≤◌, false, ◌==◌, nat_lt, List, [], ◌∷◌, Some, take, drop, refl, sym, ◌∙◌, ap, subst}
use Rattle.std.proofs.{Common.{arith, filter, find, slice_get}, lemmas.Bool.{lt-ltb, le-ltb, eq-eqb, cond-true, cond-false, Decides.eqb_tells}}
use Rattle.{std.specs.List.AllByRecursion, circle.specs.Sound.CountsFrom, hub_state.proofs.Keeping.numbers_above}

module _ {X : Type 0} (number : X → ℕ) where
  pub counts_on : (n m : ℕ) (xs : List X) → n ≡ m → CountsFrom number n xs → CountsFrom number m xs
  counts_on n m xs same h = subst (λ k. CountsFrom number k xs) same h

  all_above : (m n : ℕ) (xs : List X) → m ≤ n → CountsFrom number n xs → filter (λ x. nat_lt m (number x)) xs ≡ xs
  all_above m n [] low h = refl
  all_above m n (x ∷ xs) low h =
      let more : m < number x = omega (arith, h.0) in
      let later : m ≤ n + 1 = omega arith in
      cond-true (nat_lt m (number x)) _ _ (lt-ltb m (number x) more) ∙ ap (λ ys. x ∷ ys) (all_above m (n + 1) xs later h.1)

  -- the rows above a number are those after as many
  above-drop : (a n : ℕ) (xs : List X) → CountsFrom number n xs → filter (λ x. nat_lt (n + a) (number x)) xs ≡ drop a xs
  above-drop zero n xs h = all_above (n + 0) n xs (omega arith) h
  above-drop (suc a) n [] h = refl
  above-drop (suc a) n (x ∷ xs) h =
      let low : number x ≤ n + suc a = omega (arith, h.0) in
      let same : n + suc a ≡ (n + 1) + a = omega arith in
      cond-false (nat_lt (n + suc a) (number x)) _ _ (le-ltb (n + suc a) (number x) low)
      ∙ ap (λ k. filter (λ y. nat_lt k (number y)) xs) same
      ∙ above-drop a (n + 1) xs h.1

  pub above-numbered : (a : ℕ) (xs : List X) → CountsFrom number 0 xs → filter (λ x. nat_lt a (number x)) xs ≡ drop a xs
  above-numbered a xs h = let same : a ≡ 0 + a = omega arith in ap (λ k. filter (λ y. nat_lt k (number y)) xs) same ∙ above-drop a 0 xs h

  pub counts-drop : (a n : ℕ) (xs : List X) → CountsFrom number n xs → CountsFrom number (n + a) (drop a xs)
  counts-drop zero n xs h = counts_on n (n + 0) xs (omega arith) h
  counts-drop (suc a) n [] h = tt
  counts-drop (suc a) n (x ∷ xs) h = counts_on ((n + 1) + a) (n + suc a) (drop a xs) (omega arith) (counts-drop a (n + 1) xs h.1)

  pub counts-take : (k n : ℕ) (xs : List X) → CountsFrom number n xs → CountsFrom number n (take k xs)
  counts-take zero n xs h = tt
  counts-take (suc k) n [] h = tt
  counts-take (suc k) n (x ∷ xs) h = (h.0, counts-take k (n + 1) xs h.1)

  -- the row at a place
  pub counts-get : (xs : List X) (n k : ℕ) (x : X) → CountsFrom number n xs → slice_get xs k ≡ Some x → number x ≡ n + k + 1
  counts-get [] n k x h is = cc
  counts-get (y ∷ ys) n zero x h is = let same : y ≡ x = cc in ap number (sym same) ∙ (omega (arith, h.0))
  counts-get (y ∷ ys) n (suc k) x h is = let later = counts-get ys (n + 1) k x h.1 is in omega (arith, later)

  smaller : (a b : ℕ) → a < b → (a == b) ≡ false
  smaller a b low = elim (eqb_tells a b) [ inl t ↦ absurd (omega (arith, t.1)) | inr t ↦ t.0 ]

  found_behind : (x : X) (xs all : List X) → AllByRecursion (λ y. number x < number y) xs → AllByRecursion (λ y. find (λ z. number z == number y) all ≡ Some y) xs
      → AllByRecursion (λ y. find (λ z. number z == number y) (x ∷ all) ≡ Some y) xs
  found_behind x [] all low h = tt
  found_behind x (y ∷ ys) all low h =
      (cond-false (number x == number y) _ _ (smaller (number x) (number y) low.0) ∙ h.0, found_behind x ys all low.1 h.1)

  -- each row is the one found by its number
  pub all_found : (n : ℕ) (xs : List X) → CountsFrom number n xs → AllByRecursion (λ y. find (λ z. number z == number y) xs ≡ Some y) xs
  all_found n [] h = tt
  all_found n (x ∷ xs) h = (
    cond-true (number x == number x) _ _ (eq-eqb (number x) (number x) refl),
    found_behind x xs xs (subst (λ m. AllByRecursion (λ y. m < number y) xs) (sym h.0) (numbers_above number (n + 1) xs h.1)) (all_found (n + 1) xs h.1),
  )
