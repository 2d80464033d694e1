-- The rows that a table takes: the same in another order, the first of them, and no conflict between them.
use Rattle.std.proofs.Common.{◌≡◌, inl, inr, ◌<◌, ◌^◌, ◌&&◌, ◌||◌, List, [], ◌∷◌, ◌++◌, map, Bool, false, refl, sym, ap, subst, ◌∙◌, arith}
use Rattle.std.proofs.{Math.Bool.and-false, lemmas.{Cmp.tied_itself, List.{length-append, Sorted.{length_permutation, IsPermutation-append_comm}}}}
use Rattle.std.{proofs.lemmas.List.Sorted.IsPermutation-sym, specs.List.{AllByRecursion, list_any, Sorted.IsPermutation}}
use Rattle.sqlite_value.{proofs.OrderLemmas.value_cmp_total, specs.{Order.Row, declared.value.Value.{Value, TheVariants.{Null, Int, Real, Text, Blob}}}}
use Rattle.{sqlite_sql.specs.Ops.binary, sqlite_schema.specs.Rules.differ, sqlite_rules.{proofs.ListLemmas.all_has, specs.Lists.Has}}
use Rattle.{hub_state.specs.declared.state.Naming.Naming, sqlite_trees.proofs.ListLemmas.{all-map, all-permutation, all_weaker, along_permutation}}
use Rattle.sqlite_trees.{proofs.ListLemmas.{ascending-map, ascending_from_map, ascending_weaker}, specs.Tree.{IsAscending, rowid}}
use Rattle.hub_store.specs.{Fit.ShortItem, Items.item_row, inner.Beside.{CanHold, CanName, CanStand, NumberedApart, ShortNamingAs, Unlike, IsRowOf, CanNumber}}

-- ---- pairs

abbrev pub OneApart : (Row → Row → Bool) → Row → Row → Type 0
OneApart same a b = (same a b ≡ false) × (same b a ≡ false)

pub all_before : (P : Row → Type 0) (xs ys : List Row) → AllByRecursion P (xs ++ ys) → AllByRecursion P xs
all_before P [] ys all = tt
all_before P (x ∷ xs) ys all = (all.0, all_before P xs ys all.1)

pairs_before : (R : Row → Row → Type 0) (xs ys : List Row) → IsAscending R (xs ++ ys) → IsAscending R xs
pairs_before R [] ys p = tt
pairs_before R (x ∷ xs) ys p = (all_before (R x) xs ys p.0, pairs_before R xs ys p.1)

-- rows that differ as they are seen differ
pub pairs_seen : (same full : Row → Row → Bool) (seen : Row → Row) → ((a b : Row) → full a b ≡ same (seen a) (seen b)) → (rows : List Row) → IsAscending (OneApart same) (map seen rows) → IsAscending (OneApart full) rows
pairs_seen same full seen as_seen rows p =
    ascending_weaker (λ a b. OneApart same (seen a) (seen b)) (OneApart full) (λ a b apart. (as_seen a b ∙ apart.0, as_seen b a ∙ apart.1)) rows (ascending_from_map (OneApart same) seen rows p)

-- ---- what a table takes

module _ (R : Row → Row → Type 0) (turn : (a b : Row) → R a b → R b a) where
  abbrev Still : List Row → List Row → Type 0
  Still xs ys = ((z : Row) → AllByRecursion (R z) xs → AllByRecursion (R z) ys) × (IsAscending R xs → IsAscending R ys)

  pub pairs_permuted : (xs ys : List Row) → IsPermutation xs ys → IsAscending R xs → IsAscending R ys
  pairs_permuted xs ys is = (along_permutation Still (λ xs. (λ z all. all, λ p. p))
      (λ y xs ys more. (λ z all. (all.0, more.0 z all.1), λ p. (more.0 y p.0, more.1 p.1)))
      (λ a b xs. (λ z all. (all.1.0, (all.0, all.1.1)), λ p. ((turn a b p.0.0, p.1.0), (p.0.1, p.1.1))))
      (λ xs ys zs f g. (λ z all. g.0 z (f.0 z all), λ p. g.1 (f.1 p))) xs ys is).1

  -- a table that takes rows takes them in another order
  pub can_permuted : (IsOne : Row → Type 0) (xs ys : List Row) → IsPermutation xs ys → CanHold R IsOne xs → CanHold R IsOne ys
  can_permuted IsOne xs ys is can = record {
    apart = pairs_permuted xs ys is can.apart;
    each = all-permutation IsOne xs ys is can.each;
  }

  pub number_permuted : (IsOne : Row → Type 0) (xs ys : List Row) → IsPermutation xs ys → CanNumber R IsOne xs → CanNumber R IsOne ys
  number_permuted IsOne xs ys is can = (can_permuted IsOne xs ys is can.0, subst (λ n. n < 2 ^ 62) (sym (length_permutation xs ys is)) can.1)

-- and the first of them
pub can_before : (R : Row → Row → Type 0) (IsOne : Row → Type 0) (xs ys : List Row) → CanHold R IsOne (xs ++ ys) → CanHold R IsOne xs
can_before R IsOne xs ys can = record { apart = pairs_before R xs ys can.apart; each = all_before IsOne xs ys can.each }

pub number_before : (R : Row → Row → Type 0) (IsOne : Row → Type 0) (xs ys : List Row) → CanNumber R IsOne (xs ++ ys) → CanNumber R IsOne xs
number_before R IsOne xs ys can = (can_before R IsOne xs ys can.0, omega (arith, can.1, length-append xs ys))

-- it takes the rows of elements that are apart
pub can_hold : {X : Type 0} (R : Row → Row → Type 0) (kept : X → Row) (IsTaken : X → Type 0) (xs : List X) → IsAscending (λ a b. R (kept a) (kept b)) xs → AllByRecursion IsTaken xs → CanHold R (IsRowOf kept IsTaken) (map kept xs)
can_hold R kept IsTaken xs apart taken = record {
  apart = ascending-map R kept xs apart;
  each = all-map (IsRowOf kept IsTaken) kept xs (all_weaker IsTaken (λ x. IsRowOf kept IsTaken (kept x)) (λ x one. (x, refl, one)) xs taken);
}

-- ---- no conflict

itself : (v : Value) → differ v v ≡ false
unfolding binary
itself Null = refl
itself (Int n) = rw (tied_itself value_cmp_total (Int n)) refl
itself (Real x) = rw (tied_itself value_cmp_total (Real x)) refl
itself (Text t) = rw (tied_itself value_cmp_total (Text t)) refl
itself (Blob b) = rw (tied_itself value_cmp_total (Blob b)) refl

never_alike : (same : Row → Row → Bool) (row : Row) (rows : List Row) → AllByRecursion (OneApart same row) rows → list_any (λ o. same o row && differ (rowid o) (rowid row)) rows ≡ false
never_alike same row [] all = refl
never_alike same row (o ∷ rows) all = ap (λ b. (b && differ (rowid o) (rowid row)) || list_any (λ o. same o row && differ (rowid o) (rowid row)) rows) all.0.1 ∙ never_alike same row rows all.1

pub no_clash : (same : Row → Row → Bool) (rows : List Row) → IsAscending (OneApart same) rows → (row : Row) → Has rows row → list_any (λ o. same o row && differ (rowid o) (rowid row)) rows ≡ false
no_clash same [] p row h = refl
no_clash same (r ∷ rows) p row (inl is) =
    subst (λ (x : Row). list_any (λ o. same o x && differ (rowid o) (rowid x)) (r ∷ rows) ≡ false) (sym is)
    (ap (λ b. (same r r && b) || list_any (λ o. same o r && differ (rowid o) (rowid r)) rows) (itself (rowid r)) ∙ ap (λ b. b || list_any (λ o. same o r && differ (rowid o) (rowid r)) rows) (and-false (same r r)) ∙ never_alike same r rows p.0)
no_clash same (r ∷ rows) p row (inr h) =
    ap (λ b. (b && differ (rowid r) (rowid row)) || list_any (λ o. same o row && differ (rowid o) (rowid row)) rows) (all_has (OneApart same r) rows row p.0 h).0 ∙ no_clash same rows p.1 row h

-- ---- lines, in any order, and the last of them

pub stand_permuted : (xs ys : List Row) → IsPermutation xs ys → CanStand xs → CanStand ys
stand_permuted xs ys is can = number_permuted (Unlike (0 ∷ 1 ∷ [])) (λ a b p. (p.1, p.0)) (IsRowOf item_row ShortItem) xs ys is can

pub stand_behind : (xs ys : List Row) → CanStand (xs ++ ys) → CanStand ys
stand_behind xs ys can = number_before (Unlike (0 ∷ 1 ∷ [])) (IsRowOf item_row ShortItem) ys xs (stand_permuted (xs ++ ys) (ys ++ xs) (IsPermutation-append_comm xs ys) can)

-- ---- names: one is put before all that came first

pub first_names : (kept : Naming → Row) (new : Row) (before rows rest : List Row) → IsPermutation (new ∷ before) rows → CanName kept (rows ++ rest) → CanName kept (new ∷ before)
first_names kept new before rows rest is can =
    let IsOne = IsRowOf kept (ShortNamingAs kept) in
    can_permuted (NumberedApart (2 ∷ 3 ∷ [])) (λ a b p. ((p.0.1, p.0.0), (p.1.1, p.1.0))) IsOne rows (new ∷ before) (IsPermutation-sym _ _ is) (can_before (NumberedApart (2 ∷ 3 ∷ [])) IsOne rows rest can)
