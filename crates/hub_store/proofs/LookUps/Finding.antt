-- What a query finds: the elements that pass, and the values that the rows show.
use Rattle.std.proofs.Common.{◌≡◌, ◌≢◌, ℕ, List, [], ◌∷◌, ◌++◌, map, filter, find, Bool, true, false, cond, ◌==◌, Option, Some, None, option_map, Result, Ok}
use Rattle.std.proofs.{Common.{Err, IfOk, nat_cmp, refl, sym, ap, subst, ◌∙◌, arith}, lemmas.Bool.{false_from_ne_true, Decides.nat_tests}}
use Rattle.std.{proofs.lemmas.List.Sorted.{IsPermutation-map, IsPermutation-trans, length_permutation}, specs.List.Sorted.IsPermutation}
use Rattle.{std.specs.{Option.option_to_list, Str.bytes_eq, declared.cmp.Ordering.TheVariants.Less}, sqlite_value.specs.Order.Row}
use Rattle.sqlite_trees.{proofs.ListLemmas.{map-map, filter-map, filter_same, filter_none, all_weaker, IsPermutation-filter}, specs.Tree.Trees}
use Rattle.{sqlite.{proofs.Callers.one_permutation, specs.declared.error.Error.Error}, iodef_tree.proofs.Order.bytes_eq-true, circle.specs.Sound.Pairwise}
use Rattle.{circle.specs.Sound.{CountsFrom, Differ}, hub_store.proofs.Rows.{Found.{always, filter_rows, map_each}, Lists.Rises, Rising.counted}}
use Rattle.hub_store.specs.{Holdings.{Holding, IsHeld}, inner.Shown.{IsShownBy, ShowsFirst, ShowsAll}}

-- ---- the elements that pass

-- what a query shows of a table, by what is seen of its rows
pub seen_through : {Y : Type 0} (db : Trees) (h : Holding) (keep : Row → Bool) (show : Row → Y) (p : Row → Bool) (shown : Row → Y) (found : List Y) → ((r : Row) → keep r ≡ p (h.seen r)) → ((r : Row) → show r ≡ shown (h.seen r)) → IsHeld db h
    → IsPermutation (map show (filter keep (db h.tree))) found → IsPermutation (map shown (filter p h.rows)) found
seen_through db h keep show p shown found keeps shows held is =
    let rows = db h.tree in
    let same : map shown (filter p (map h.seen rows)) ≡ map show (filter keep rows) =
    ap (map shown) (filter-map p h.seen rows) ∙ map-map shown h.seen (filter (λ r. p (h.seen r)) rows) ∙ map_each (λ r. shown (h.seen r)) show (λ r. sym (shows r)) (filter (λ r. p (h.seen r)) rows)
    ∙ ap (map show) (filter_same (λ r. p (h.seen r)) keep rows (always (λ r. sym (keeps r)) rows)) in
    IsPermutation-trans _ _ _ (IsPermutation-map shown _ _ (IsPermutation-filter p _ _ held.same)) (subst (λ l. IsPermutation l found) (sym same) is)

-- the same by the elements of the rows
pub of_elements : {X Y : Type 0} (row : X → Row) (p : Row → Bool) (shown : Row → Y) (q : X → Bool) (xs : List X) (found : List Y) → ((x : X) → p (row x) ≡ q x) → IsPermutation (map shown (filter p (map row xs))) found → IsPermutation (map (λ x. shown (row x)) (filter q xs)) found
of_elements row p shown q xs found same = subst (λ l. IsPermutation l found) (ap (map shown) (filter_rows row p q same xs) ∙ map-map shown row (filter q xs))

-- ---- at most one passes

abbrev pub Once : {X : Type 0} → (X → Bool) → List X → Type 0
Once q = Pairwise (λ a b. q a ≡ true → q b ≡ false)

pub only_one : {X : Type 0} (q : X → Bool) (xs : List X) → Once q xs → filter q xs ≡ option_to_list (find q xs)
only_one q [] once = refl
only_one q (x ∷ xs) once = go (q x) refl (only_one q xs once.1)
  where
    go : (b : Bool) → q x ≡ b → filter q xs ≡ option_to_list (find q xs) → cond b (x ∷ filter q xs) (filter q xs) ≡ option_to_list (cond b (Some x) (find q xs))
    go true is more = ap (λ l. x ∷ l) (filter_none q xs (all_weaker (λ y. q x ≡ true → q y ≡ false) (λ y. q y ≡ false) (λ y h. h is) xs once.0))
    go false is more = more

weaker_pairs : {X : Type 0} (R S : X → X → Type 0) → ((a b : X) → R a b → S a b) → (xs : List X) → Pairwise R xs → Pairwise S xs
weaker_pairs R S f [] h = tt
weaker_pairs R S f (x ∷ xs) h = (all_weaker (R x) (S x) (f x) xs h.0, weaker_pairs R S f xs h.1)

tie_number : (a b c : ℕ) → nat_cmp a b ≡ Less → (a == c) ≡ true → (b == c) ≡ false
tie_number a b c h k = grind (arith, nat_tests)

once_rising : {X : Type 0} (number : X → ℕ) (n : ℕ) (xs : List X) → Rises nat_cmp number xs → Once (λ x. number x == n) xs
once_rising number n [] up = tt
once_rising number n (x ∷ xs) up = (all_weaker (λ y. nat_cmp (number x) (number y) ≡ Less) (λ y. (number x == n) ≡ true → (number y == n) ≡ false) (λ y h. tie_number (number x) (number y) n h) xs up.0, once_rising number n xs up.1)

-- a number is there once
pub once_numbered : {X : Type 0} (number : X → ℕ) (n : ℕ) (xs : List X) → CountsFrom number 0 xs → Once (λ x. number x == n) xs
once_numbered number n xs counts = once_rising number n xs (counted number 0 xs counts)

-- a text or a key is there once
pub once_keyed : {X : Type 0} (key : X → List ℕ) (k : List ℕ) (xs : List X) → Differ key xs → Once (λ x. bytes_eq (key x) k) xs
once_keyed key k = weaker_pairs (λ a b. key a ≢ key b) (λ a b. bytes_eq (key a) k ≡ true → bytes_eq (key b) k ≡ false) (λ a b apart is. false_from_ne_true (bytes_eq (key b) k) (λ also. apart (bytes_eq-true (key a) k is ∙ sym (bytes_eq-true (key b) k also))))

-- ---- what the rows are read as

pub as_viewed : {X Y : Type 0} (show : X → Row) (view : X → Y) (shown : Y → Row) → ((x : X) → show x ≡ shown (view x)) → (o : Option X) → map show (option_to_list o) ≡ map shown (option_to_list (option_map view o))
as_viewed show view shown same None = refl
as_viewed show view shown same (Some x) = ap (λ r. r ∷ []) (same x)

pub no_permutation : {X : Type 0} (xs : List X) → IsPermutation [] xs → xs ≡ []
no_permutation [] h = refl
no_permutation (x ∷ xs) h = absurd (omega (arith, length_permutation [] (x ∷ xs) h))

module _ {X : Type 0} (shown : X → Row) where
  first_is : (o : Option X) (rows : List Row) (found : Option X) → IsPermutation (map shown (option_to_list o)) rows → ShowsFirst (IsShownBy shown) rows found → found ≡ o
  first_is None rows found same h = none found (subst (λ l. ShowsFirst (IsShownBy shown) l found) (no_permutation rows same) h)
    where
      none : (found : Option X) → ShowsFirst (IsShownBy shown) [] found → found ≡ None
      none None h = refl
      none (Some x) h = absurd h
  first_is (Some o) rows found same h = one found (subst (λ l. ShowsFirst (IsShownBy shown) l found) (one_permutation (shown o) rows same) h)
    where
      one : (found : Option X) → ShowsFirst (IsShownBy shown) (shown o ∷ []) found → found ≡ Some o
      one None h = absurd h
      one (Some x) h = ap Some (h o refl)

  -- the first row of a query that finds at most one
  pub reads_first : (o : Option X) (rows : List Row) (r : Result (Option X) Error) → IsPermutation (map shown (option_to_list o)) rows → IfOk r (λ found. ShowsFirst (IsShownBy shown) rows found) → IfOk r (λ found. found ≡ o)
  reads_first o rows (Ok found) same h = first_is o rows found same h
  reads_first o rows (Err e) same h = tt

  -- the rows in their order
  pub all_are : (xs ys : List X) → ShowsAll (IsShownBy shown) (map shown xs) ys → ys ≡ xs
  all_are [] [] h = refl
  all_are [] (y ∷ ys) h = absurd h
  all_are (x ∷ xs) [] h = absurd h
  all_are (x ∷ xs) (y ∷ ys) h =
      let head : y ≡ x = h.0 x refl in
      let tail : ys ≡ xs = all_are xs ys h.1 in
      cc

  -- the first rows of them
  pub first_are : (xs : List X) (rows others : List Row) (ys : List X) → rows ++ others ≡ map shown xs → ShowsAll (IsShownBy shown) rows ys → (more : List X) × (xs ≡ ys ++ more)
  first_are xs [] others [] is h = (xs, refl)
  first_are xs [] others (y ∷ ys) is h = absurd h
  first_are xs (row ∷ rows) others [] is h = absurd h
  first_are [] (row ∷ rows) others (y ∷ ys) is h = absurd cc
  first_are (x ∷ xs) (row ∷ rows) others (y ∷ ys) is h =
      let head : row ≡ shown x = cc in
      let tail : rows ++ others ≡ map shown xs = cc in
      let same : y ≡ x = h.0 x head in
      let more = first_are xs rows others ys tail h.1 in
      (more.0, ap (λ z. z ∷ xs) (sym same) ∙ ap (λ l. y ∷ l) more.1)

pub shows_more : {X : Type 0} (shows : Row → X → Type 0) (rows : List Row) (xs : List X) (row : Row) (x : X) → ShowsAll shows rows xs → shows row x → ShowsAll shows (rows ++ row ∷ []) (xs ++ x ∷ [])
shows_more shows [] [] row x h one = (one, tt)
shows_more shows [] (y ∷ xs) row x h one = absurd h
shows_more shows (r ∷ rows) [] row x h one = absurd h
shows_more shows (r ∷ rows) (y ∷ xs) row x h one = (h.0, shows_more shows rows xs row x h.1 one)
