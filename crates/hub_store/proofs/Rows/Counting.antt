-- Rows put into a table whose rowids count from 1: they get the next ones, after all others.
use Rattle.std.proofs.Common.{◌≡◌, ℕ, pos, suc, ◌+◌, ◌+ℤ◌, ◌<◌, ◌||◌, not, List, [], ◌∷◌, ◌++◌, map, fold, drop, length, append-nil, append_assoc, true, false}
use Rattle.std.{proofs.{Common.{refl, sym, ap, ap₂, subst, ◌∙◌, arith}, lemmas.{Bool.and_from, Int.ints, List.length-append}}, specs.Ordering.is_eq}
use Rattle.{std.specs.{Ordering.match_ordering, declared.cmp.Ordering.TheVariants.Less}, sqlite_value.{proofs.OrderLemmas.value_cmp-Int, specs.Order.Row}}
use Rattle.{sqlite_value.specs.{Order.value_cmp, declared.value.Value.TheVariants.Int}, sqlite_trees.specs.Tree.{rowid, put_row}, sqlite_rules.specs.Edit.id_in}
use Rattle.sqlite_rules.specs.{Edit.{next_rowid, with_rowid, numbered, put_all, is_taken, are_fresh}, declared.error.Rowids.TheVariants.Chosen}
use Rattle.hub_store.{proofs.{LookUps.Listed.int_below, Rows.{Held.bare, Rising.less}}, specs.inner.Beside.AreNumbered}

-- the rows under rowids that count on
abbrev pub labelled : ℕ → List Row → List Row
labelled n [] = []
labelled n (r ∷ rows) = (Int (pos n) ∷ r) ∷ labelled (suc n) rows

plus_one : (n : ℕ) → pos n +ℤ pos 1 ≡ pos (suc n)
plus_one n = grind (arith, ints)

pub further : (n m : ℕ) → suc n + m ≡ n + suc m
further n m = omega arith

pub as_far : (n : ℕ) → n ≡ n + 0
as_far n = omega arith

next_from : (n : ℕ) (rows : List Row) → AreNumbered n rows → fold (λ _ r. id_in (rowid r) +ℤ pos 1) (pos n) rows ≡ pos (n + length rows)
next_from n [] counts = ap pos (as_far n)
next_from n (r ∷ rows) counts = ap (λ z. fold (λ _ r. id_in (rowid r) +ℤ pos 1) z rows) (ap (λ v. id_in v +ℤ pos 1) counts.0 ∙ plus_one n) ∙ next_from (suc n) rows counts.1 ∙ ap pos (further n (length rows))

one_on : (n : ℕ) → 1 + n ≡ suc n
one_on n = omega arith

pub next_is : (rows : List Row) → AreNumbered 1 rows → next_rowid rows ≡ pos (suc (length rows))
next_is rows counts = next_from 1 rows counts ∙ ap pos (one_on (length rows))

below : (m n : ℕ) → m < n → value_cmp (Int (pos m)) (Int (pos n)) ≡ Less
below m n h = value_cmp-Int (pos m) (pos n) ∙ int_below m n (less m n h)

put_last : (n k : ℕ) (rows : List Row) (new : Row) → AreNumbered n rows → k ≡ n + length rows → rowid new ≡ Int (pos k) → put_row new rows ≡ rows ++ new ∷ []
put_last n k [] new counts at is = refl
put_last n k (r ∷ rows) new counts at is =
    let up : value_cmp (rowid r) (rowid new) ≡ Less = ap (λ v. value_cmp v (rowid new)) counts.0 ∙ ap (λ v. value_cmp (Int (pos n)) v) is ∙ below n k (omega (arith, at)) in
    ap (λ o. match_ordering o (r ∷ put_row new rows) (new ∷ rows) (new ∷ r ∷ rows)) up ∙ ap (λ l. r ∷ l) (put_last (suc n) k rows new counts.1 (at ∙ sym (further n (length rows))) is)

free_behind : (n k : ℕ) (rows : List Row) (new : Row) → AreNumbered n rows → k ≡ n + length rows → rowid new ≡ Int (pos k) → is_taken rows new ≡ false
free_behind n k [] new counts at is = refl
free_behind n k (r ∷ rows) new counts at is =
    let up : value_cmp (rowid r) (rowid new) ≡ Less = ap (λ v. value_cmp v (rowid new)) counts.0 ∙ ap (λ v. value_cmp (Int (pos n)) v) is ∙ below n k (omega (arith, at)) in
    ap (λ o. is_eq o || is_taken rows new) up ∙ free_behind (suc n) k rows new counts.1 (at ∙ sym (further n (length rows))) is

one_more : (n k : ℕ) (rows : List Row) (new : Row) → AreNumbered n rows → k ≡ n + length rows → rowid new ≡ Int (pos k) → AreNumbered n (rows ++ new ∷ [])
one_more n k [] new counts at is = (is ∙ ap (λ m. Int (pos m)) (at ∙ sym (as_far n)), tt)
one_more n k (r ∷ rows) new counts at is = (counts.0, one_more (suc n) k rows new counts.1 (at ∙ sym (further n (length rows))) is)

-- the rows that are put, with their rowids
pub record PutBehind (before more : List Row) : Type 0 where
  pub news : numbered Chosen before (map bare more) ≡ labelled (suc (length before)) more
  pub all : put_all before (labelled (suc (length before)) more) ≡ before ++ labelled (suc (length before)) more
  pub fresh : are_fresh before (labelled (suc (length before)) more) ≡ true
  pub counts : AreNumbered 1 (before ++ labelled (suc (length before)) more)

longer : (before : List Row) (new : Row) → length (before ++ new ∷ []) ≡ suc (length before)
longer before new = length-append before (new ∷ []) ∙ last (length before)
  where
    last : (n : ℕ) → n + 1 ≡ suc n
    last n = omega arith

pub put_behind : (before more : List Row) → AreNumbered 1 before → PutBehind before more
put_behind before [] counts = record { news = refl; all = sym (append-nil before); fresh = refl; counts = subst (AreNumbered 1) (sym (append-nil before)) counts }
put_behind before (r ∷ more) counts =
    let k = suc (length before) in
    let new : Row = Int (pos k) ∷ r in
    let given : with_rowid Chosen before (bare r) ≡ new = ap (λ z. Int z ∷ r) (next_is before counts) in
    let put : put_row new before ≡ before ++ new ∷ [] = put_last 1 k before new counts (sym (one_on (length before))) refl in
    let rest = put_behind (before ++ new ∷ []) more (one_more 1 k before new counts (sym (one_on (length before))) refl) in
    let at : suc (length (before ++ new ∷ [])) ≡ suc k = ap suc (longer before new) in
    let joined : (before ++ new ∷ []) ++ labelled (suc k) more ≡ before ++ new ∷ labelled (suc k) more = append_assoc before (new ∷ []) (labelled (suc k) more) in
    record {
      news = ap₂ (λ x l. x ∷ l) given (ap (λ x. numbered Chosen (put_row x before) (map bare more)) given ∙ ap (λ l. numbered Chosen l (map bare more)) put ∙ rest.news ∙ ap (λ n. labelled n more) at);
      all = ap (λ l. put_all l (labelled (suc k) more)) put ∙ (subst (λ n. put_all (before ++ new ∷ []) (labelled n more) ≡ (before ++ new ∷ []) ++ labelled n more) at rest.all ∙ joined);
      fresh = and_from _ _ (ap not (free_behind 1 k before new counts (sym (one_on (length before))) refl)) (ap (λ l. are_fresh l (labelled (suc k) more)) put ∙ subst (λ n. are_fresh (before ++ new ∷ []) (labelled n more) ≡ true) at rest.fresh);
      counts = subst (AreNumbered 1) joined (subst (λ n. AreNumbered 1 ((before ++ new ∷ []) ++ labelled n more)) at rest.counts);
    }

-- without the rowids they are the rows
pub past_labels : (n : ℕ) (rows : List Row) → map (λ (r : Row). drop 1 r) (labelled n rows) ≡ rows
past_labels n [] = refl
past_labels n (r ∷ rows) = ap (λ l. r ∷ l) (past_labels (suc n) rows)
