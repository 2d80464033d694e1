-- The highest number of a table whose numbers have no gap: how many rows there are.
use Rattle.std.proofs.Common.{◌≡◌, ℕ, zero, suc, pos, ◌+◌, ◌<◌, List, [], ◌∷◌, ◌++◌, map, take, length, reverse, true, nat_lt, nat_cmp, Result, Ok, Err, IfOk}
use Rattle.std.proofs.{Common.{refl, sym, ap, subst, ◌∙◌, arith}, lemmas.{Bool.Decides.nat_tests, List.{map-append, Sorted.IsPermutation-map}}}
use Rattle.std.{proofs.lemmas.List.Sorted.IsPermutation-reverse, specs.{List.AllByRecursion, declared.cmp.Ordering.TheVariants.Less}}
use mathlib.Core.List.{reverse-cons}
use Rattle.sqlite_value.{proofs.OrderLemmas.value_cmp-Int, specs.{Order.{Row, column}, declared.keys.{Collation.TheVariants.Binary, Key.Key}}}
use Rattle.{sqlite_value.specs.declared.value.Value.TheVariants.Int, sqlite_trees.proofs.ListLemmas.{all_weaker, all-permutation, ascending-append}}
use Rattle.{sqlite_trees.specs.Tree.{Trees, IsAscending}, sqlite_sql.specs.{Ops.{binary, is_true}, Query.{IsAnswer, Output}, Term.{Term, lit, col, op2}}}
use Rattle.{sqlite_sql.specs.{Term.eval_all, declared.ops.{BinaryOp.TheVariants.Compare, CompareOp.TheVariants.Gt}}, sqlite.specs.declared.error.Error.Error}
use Rattle.{iodef_tree.proofs.Siblings.filter-all, circle.specs.Sound.CountsFrom, hub_state.proofs.Keeping.numbers_above}
use Rattle.hub_store.proofs.{LookUps.Listed.{listed, int_below}, Rows.{Compare.{more_than, and-true}, Found.map_each, Held.permuted, Rising.less}}
use Rattle.hub_store.{proofs.Rows.{Statements.{keeps, shows}, TextsHighest.highest_query}, specs.Holdings.{IsHeld, holding_by_number}}
use Rattle.hub_store.specs.inner.FirstShown.{number_shown, ShowsNumberOrZero}

-- ---- lists

first_stays : {X : Type 0} (xs ys : List X) (x : X) → take 1 xs ≡ x ∷ [] → take 1 (xs ++ ys) ≡ x ∷ []
first_stays [] ys x is = absurd cc
first_stays (z ∷ xs) ys x is = is

above_zero : (m : ℕ) → 0 < m → nat_lt 0 m ≡ true
above_zero m h = grind (arith, nat_tests)

-- no row, or the one of this number
abbrev ending_in : ℕ → ℕ → List Row
ending_in n zero = []
ending_in n (suc k) = number_shown (n + suc k) ∷ []

module _ {X : Type 0} (number : X → ℕ) where
  falling : (n : ℕ) (xs : List X) → CountsFrom number n xs → IsAscending (λ a b. nat_cmp (number b) (number a) ≡ Less) (reverse xs)
  falling n [] counts = tt
  falling n (x ∷ xs) counts =
      let own : number x ≡ n + 1 = counts.0 in
      let later = all-permutation (λ y. n + 1 < number y) xs (reverse xs) (IsPermutation-reverse xs) (numbers_above number (n + 1) xs counts.1) in
      subst (IsAscending (λ a b. nat_cmp (number b) (number a) ≡ Less)) (sym (reverse-cons x xs))
      (ascending-append (λ a b. nat_cmp (number b) (number a) ≡ Less) (reverse xs) (x ∷ []) (falling (n + 1) xs counts.1) (tt, tt)
      (all_weaker (λ y. n + 1 < number y) (λ y. AllByRecursion (λ b. nat_cmp (number b) (number y) ≡ Less) (x ∷ [])) (λ y above. (less (number x) (number y) (omega arith), tt)) (reverse xs) later))

  last_is : (n : ℕ) (xs : List X) → CountsFrom number n xs → take 1 (map (λ x. number_shown (number x)) (reverse xs)) ≡ ending_in n (length xs)
  last_is n [] counts = refl
  last_is n (x ∷ []) counts = ap (λ m. number_shown m ∷ []) counts.0
  last_is n (x ∷ y ∷ ys) counts =
      let show = λ (z : X). number_shown (number z) in
      let later : n + 1 + suc (length ys) ≡ n + suc (suc (length ys)) = omega arith in
      ap (λ l. take 1 (map show l)) (reverse-cons x (y ∷ ys)) ∙ ap (take 1) (map-append show (reverse (y ∷ ys)) (x ∷ []))
      ∙ first_stays (map show (reverse (y ∷ ys))) (show x ∷ []) (number_shown (n + suc (suc (length ys)))) (last_is (n + 1) (y ∷ ys) counts.1 ∙ ap (λ m. number_shown m ∷ []) later)

-- ---- the query

pub highest_listed : {X : Type 0} (db : Trees) (tree : ℕ) (row : X → Row) (number : X → ℕ) (xs : List X) (rows : List Row) → ((x : X) → column (row x) 0 ≡ Int (pos (number x))) → CountsFrom number 0 xs → IsHeld db (holding_by_number tree row xs) → IsAnswer (highest_query tree) db [] rows
    → rows ≡ ending_in 0 (length xs)
highest_listed {X} db tree row number xs rows first counts held a =
    let terms = op2 (Compare Gt Binary) (col 1 0) (lit (Int (pos 0))) ∷ [] in
    let project = col 1 0 ∷ [] in
    let order : List (Term × Key) = (col 1 0, record { collation = Binary; descending = true }) ∷ [] in
    let passes = λ (x : X). nat_lt 0 (number x) in
    let out : Row → Output = λ r. (eval_all (map (λ (k : Term × Key). k.0) order) ([] ∷ r ∷ []), shows project [] r) in
    let positive = all_weaker (λ x. 0 < number x) (λ x. passes x ≡ true) (λ x h. above_zero (number x) h) (reverse xs) (all-permutation (λ x. 0 < number x) xs (reverse xs) (IsPermutation-reverse xs) (numbers_above number 0 xs counts)) in
    listed db tree (λ r. r) row (reverse xs) passes terms project order (lit (Int (pos 1))) [] (keeps terms []) out rows (λ r. refl) (λ r. refl)
    (λ x. and-true _ ∙ ap (λ v. is_true (binary (Compare Gt Binary) v (Int (pos 0)))) (first x) ∙ more_than (number x) 0)
    (λ a b. nat_cmp (number b) (number a) ≡ Less) (falling number 0 xs counts)
    (λ a b _ less _. rw (first a, first b, value_cmp-Int (pos (number b)) (pos (number a)), int_below (number b) (number a) less) refl)
    (permuted db tree (λ r. r) (map row xs) (map row (reverse xs)) (IsPermutation-map row _ _ (IsPermutation-reverse xs)) held) a
    ∙ ap (λ l. take 1 (map (λ x. column (row x) 0 ∷ []) l)) (filter-all passes (reverse xs) positive)
    ∙ ap (take 1) (map_each (λ x. column (row x) 0 ∷ []) (λ x. number_shown (number x)) (λ x. ap (λ v. v ∷ []) (first x)) (reverse xs))
    ∙ last_is number 0 xs counts

number_is : (count : ℕ) (rows : List Row) (n : ℕ) → rows ≡ ending_in 0 count → ShowsNumberOrZero rows n → n ≡ count
number_is count rows n is h = go count (subst (λ l. ShowsNumberOrZero l n) is h)
  where
    go : (count : ℕ) → ShowsNumberOrZero (ending_in 0 count) n → n ≡ count
    go zero h = h
    go (suc k) h = let it : n ≡ 0 + suc k = h (0 + suc k) refl in omega (arith, it)

pub reads_count : (count : ℕ) (rows : List Row) (r : Result ℕ Error) → rows ≡ ending_in 0 count → IfOk r (λ n. ShowsNumberOrZero rows n) → IfOk r (λ n. n ≡ count)
reads_count count rows (Ok n) is h = number_is count rows n is h
reads_count count rows (Err e) is h = tt
