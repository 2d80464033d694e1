-- What the rows of pairs are read as.
use Rattle.std.proofs.Common.{◌≡◌, ℕ, pos, List, [], ◌∷◌, Vec, map, filter, find, length, Bool, true, false, cond, not, ◌==◌, is_some, Option, Some, None}
use Rattle.std.proofs.{Common.{option_map, Result, Ok, Err, IfOk, refl, ap, subst, ◌∙◌}, lemmas.List.Sorted.IsPermutation-refl}
use Rattle.{std.specs.{List.Sorted.IsPermutation, Option.option_to_list, declared.alloc.Global.Global}, sqlite_value.specs.Order.{Row, column}}
use Rattle.{sqlite_value.specs.declared.value.Value.TheVariants.Int, sqlite_trees.proofs.ListLemmas.{map-map, filter-map}}
use Rattle.{sqlite.specs.declared.error.Error.Error, hub_store.{proofs.LookUps.Finding.reads_first, specs.{Pairs.Pair, inner.Shown.{ShowsAll, ShowsFirst}}}}
use Rattle.hub_store.specs.inner.{Shown.IsShownBy, ShownPairs.ShowsNumber}

-- a row is shown if there is an element
pub any_alone : {X : Type 0} (shown : X → Row) (o : Option X) (rows : List Row) → rows ≡ map shown (option_to_list o) → not (length rows == 0) ≡ is_some o
any_alone {X = X} shown o rows is = ap (λ l. not (length l == 0)) is ∙ go o
  where
    go : (o : Option X) → not (length (map shown (option_to_list o)) == 0) ≡ is_some o
    go None = refl
    go (Some x) = refl

module _ {X : Type 0} (shown : X → Row) (number : X → ℕ) (first : (x : X) → column (shown x) 0 ≡ Int (pos (number x))) where
  numbers_are : (xs : List X) (ns : List ℕ) → ShowsAll ShowsNumber (map shown xs) ns → ns ≡ map number xs
  numbers_are [] [] h = refl
  numbers_are [] (n ∷ ns) h = absurd h
  numbers_are (x ∷ xs) [] h = absurd h
  numbers_are (x ∷ xs) (n ∷ ns) h =
      let head : n ≡ number x = h.0 (number x) (first x) in
      let tail : ns ≡ map number xs = numbers_are xs ns h.1 in
      cc

  -- the first columns of the rows, as numbers
  pub reads_numbers : (xs : List X) (rows : List Row) (r : Result (Vec ℕ Global) Error) → rows ≡ map shown xs → IfOk r (λ found. ShowsAll ShowsNumber rows found.items) → IfOk r (λ found. found.items ≡ map number xs)
  reads_numbers xs rows (Ok found) is h = numbers_are xs found.items (subst (λ l. ShowsAll ShowsNumber l found.items) is h)
  reads_numbers xs rows (Err e) is h = tt

-- the one row, if there is one
pub reads_alone : {X : Type 0} (shown : X → Row) (o : Option X) (rows : List Row) (r : Result (Option X) Error) → rows ≡ map shown (option_to_list o) → IfOk r (λ found. ShowsFirst (IsShownBy shown) rows found) → IfOk r (λ found. found ≡ o)
reads_alone shown o rows r is = reads_first shown o rows r (subst (λ l. IsPermutation l rows) is (IsPermutation-refl rows))

-- ---- pairs as their elements

pub found_pair : {X : Type 0} (pair : X → Pair) (q : Pair → Bool) (xs : List X) → find q (map pair xs) ≡ option_map pair (find (λ x. q (pair x)) xs)
found_pair pair q [] = refl
found_pair pair q (x ∷ xs) = go (q (pair x)) (found_pair pair q xs)
  where
    go : (b : Bool) → find q (map pair xs) ≡ option_map pair (find (λ x. q (pair x)) xs) → cond b (Some (pair x)) (find q (map pair xs)) ≡ option_map pair (cond b (Some x) (find (λ x. q (pair x)) xs))
    go true more = refl
    go false more = more

-- a view of the pairs that pass is one of the elements
pub viewed_pairs : {X Y : Type 0} (pair : X → Pair) (view : Pair → Y) (q : Pair → Bool) (xs : List X) → map view (filter q (map pair xs)) ≡ map (λ x. view (pair x)) (filter (λ x. q (pair x)) xs)
viewed_pairs pair view q xs = ap (map view) (filter-map q pair xs) ∙ map-map view pair (filter (λ x. q (pair x)) xs)
