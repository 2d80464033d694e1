-- Lists as sets: rows that are put and taken, and lists that rise.
use Rattle.std.proofs.Common.{◌≡◌, ◌⊎◌, inl, inr, ℤ, List, [], ◌∷◌, map, filter, Bool, true, false, cond, not, ◌&&◌, ◌||◌, refl, sym, ap, subst, ◌∙◌, IsTrue}
use Rattle.std.proofs.{Common.true≢false, lemmas.{Cmp.tied_itself, List.Sorted.{IsPermutation-cons, IsPermutation-trans, IsPermutation-refl}}}
use Rattle.std.{proofs.lemmas.List.Sorted.{IsPermutation-middle, list_any-IsPermutation}, specs.{Cmp.IsTotalOrder, List.{AllByRecursion, list_any}}}
use Rattle.std.specs.{List.Sorted.IsPermutation, Ordering.{is_eq, match_ordering, ordering_reverse}, declared.cmp.Ordering.{Ordering, TheVariants.Less}}
use Rattle.{std.specs.declared.cmp.Ordering.TheVariants.{Equal, Greater}, sqlite_value.{proofs.OrderLemmas.value_cmp_total, specs.Order.{Row, value_cmp}}}
use Rattle.{sqlite_value.specs.declared.value.Value.{Value, TheVariants.{Null, Int, Real, Text, Blob}}, sqlite_trees.proofs.ListLemmas.filter_same}
use Rattle.sqlite_trees.{proofs.ListLemmas.{all_weaker, all_both, along_permutation}, specs.Tree.{rowid, has_rowid, put_row, without_rowid, IsAscending}}
use Rattle.{sqlite_trees.specs.{View.{is_int, IsShaped}, declared.store.Shape.TheVariants.Table}, sqlite_rules.specs.Edit.{id_in, without_all, is_taken}}
use Rattle.{sqlite_rules.specs.Lists.Has, redact.proofs.Filtered.filter-both, hub_store.proofs.Rows.Found.{always, filter_all}}

-- ---- a new row is put

pub flipped : {X : Type 0} (x y : X) (xs : List X) → IsPermutation (x ∷ y ∷ xs) (y ∷ x ∷ xs)
flipped x y xs = IsPermutation-middle (x ∷ []) y xs

pub came_in : (new : Row) (rows : List Row) → is_taken rows new ≡ false → IsPermutation (new ∷ rows) (put_row new rows)
came_in new [] fresh = IsPermutation-refl _
came_in new (r ∷ rows) fresh = go (came_in new rows) (value_cmp (rowid r) (rowid new)) fresh
  where
    go : (is_taken rows new ≡ false → IsPermutation (new ∷ rows) (put_row new rows)) → (o : Ordering) → (is_eq o || is_taken rows new) ≡ false → IsPermutation (new ∷ r ∷ rows) (match_ordering o (r ∷ put_row new rows) (new ∷ rows) (new ∷ r ∷ rows))
    go more Less e = IsPermutation-trans _ _ _ (flipped new r rows) (IsPermutation-cons r _ _ (more e))
    go more Equal e = absurd (true≢false e)
    go more Greater e = IsPermutation-refl _

-- ---- rows are taken by their rowids

not-or : (a b : Bool) → not (a || b) ≡ (not a && not b)
not-or true b = refl
not-or false b = refl

is_among : List ℤ → Row → Bool
is_among ids r = list_any (λ id. has_rowid id r) ids

without_all-filter : (rows : List Row) (ids : List ℤ) → without_all rows ids ≡ filter (λ r. not (is_among ids r)) rows
unfolding is_among
without_all-filter rows [] = sym (filter_all rows)
without_all-filter rows (id ∷ ids) =
    without_all-filter (without_rowid id rows) ids ∙ filter-both _ _ rows
    ∙ filter_same _ (λ r. not (is_among (id ∷ ids) r)) rows (always (λ r. sym (not-or (has_rowid id r) (is_among ids r))) rows)

own_id : (r : Row) → IsTrue (is_int (rowid r)) → rowid r ≡ Int (id_in (rowid r))
own_id r = go (rowid r)
  where
    go : (v : Value) → IsTrue (is_int v) → v ≡ Int (id_in v)
    go Null h = absurd cc
    go (Int n) h = refl
    go (Real x) h = absurd cc
    go (Text t) h = absurd cc
    go (Blob b) h = absurd cc

abbrev pub id_of : Row → ℤ
id_of r = id_in (rowid r)

has_own : (r : Row) → IsTrue (is_int (rowid r)) → has_rowid (id_of r) r ≡ true
has_own r int = ap (λ v. is_eq (value_cmp (rowid r) v)) (sym (own_id r int)) ∙ ap is_eq (tied_itself value_cmp_total (rowid r))

lacks_later : (x r : Row) → IsTrue (is_int (rowid x)) → value_cmp (rowid x) (rowid r) ≡ Less → has_rowid (id_of x) r ≡ false
lacks_later x r int below =
    ap (λ v. is_eq (value_cmp (rowid r) v)) (sym (own_id x int)) ∙ ap is_eq (value_cmp_total.antisymm (rowid r) (rowid x) ∙ ap ordering_reverse below)

lacks_earlier : (x r : Row) → IsTrue (is_int (rowid r)) → value_cmp (rowid x) (rowid r) ≡ Less → has_rowid (id_of r) x ≡ false
lacks_earlier x r int below = ap (λ v. is_eq (value_cmp (rowid x) v)) (sym (own_id r int)) ∙ ap is_eq below

-- of the rows of a table, those with the rowid of a row that passes are those that pass
among_kept : (keep : Row → Bool) (rows : List Row) → IsShaped Table rows → AllByRecursion (λ r. is_among (map id_of (filter keep rows)) r ≡ keep r) rows
unfolding is_among
among_kept keep [] shaped = tt
among_kept keep (x ∷ xs) shaped =
    let later = among_kept keep xs (shaped.0.1, shaped.1.1) in
    let ints = shaped.1.1 in
    let none : is_among (map id_of (filter keep xs)) x ≡ false = no_later xs shaped.0.0 ints in (
      elim (keep x) as (λ b. is_among (map id_of (cond b (x ∷ filter keep xs) (filter keep xs))) x ≡ b) [ true ↦ ap (λ b. b || is_among (map id_of (filter keep xs)) x) (has_own x shaped.1.0) | false ↦ none ],
      all_both _ _ _ (λ r below is.
          elim (keep x) as (λ b. is_among (map id_of (cond b (x ∷ filter keep xs) (filter keep xs))) r ≡ keep r) [
            | true ↦ ap (λ b. b || is_among (map id_of (filter keep xs)) r) (lacks_later x r shaped.1.0 below) ∙ is
            | false ↦ is
          ]) xs shaped.0.0 later,
    )
  where
    no_later : (ys : List Row) → AllByRecursion (λ r. value_cmp (rowid x) (rowid r) ≡ Less) ys → AllByRecursion (λ r. IsTrue (is_int (rowid r))) ys → is_among (map id_of (filter keep ys)) x ≡ false
    no_later [] below int = refl
    no_later (y ∷ ys) below int =
        elim (keep y) as (λ b. is_among (map id_of (cond b (y ∷ filter keep ys) (filter keep ys))) x ≡ false) [
          | true ↦ ap (λ b. b || is_among (map id_of (filter keep ys)) x) (lacks_earlier x y int.0 below.0) ∙ no_later ys below.1 int.1
          | false ↦ no_later ys below.1 int.1
        ]

-- the rows that remain without those that pass
pub went_out : (keep : Row → Bool) (rows : List Row) (ids : List ℤ) → IsShaped Table rows → IsPermutation (map id_of (filter keep rows)) ids → without_all rows ids ≡ filter (λ r. not (keep r)) rows
unfolding is_among
went_out keep rows ids shaped same =
    without_all-filter rows ids ∙ filter_same _ (λ r. not (keep r)) rows
    (all_weaker _ (λ r. not (is_among ids r) ≡ not (keep r)) (λ r is. ap not (sym (list_any-IsPermutation (λ id. has_rowid id r) _ ids same) ∙ is)) rows (among_kept keep rows shaped))

-- ---- lists that rise by a key

abbrev pub Rises : {X K : Type 0} → (K → K → Ordering) → (X → K) → List X → Type 0
Rises R key = IsAscending (λ a b. R (key a) (key b) ≡ Less)

pub has_below : {X : Type 0} (P : X → Type 0) (xs : List X) (x : X) → AllByRecursion P xs → Has xs x → P x
has_below P [] x all h = absurd h
has_below P (y ∷ ys) x all (inl is) = subst P (sym is) all.0
has_below P (y ∷ ys) x all (inr h) = has_below P ys x all.1 h

pub has_permuted : {X : Type 0} (xs ys : List X) → IsPermutation xs ys → (x : X) → Has xs x → Has ys x
has_permuted xs ys same x = along_permutation (λ xs ys. Has xs x → Has ys x) (λ xs h. h) (λ z xs ys f. elim [ inl h ↦ inl h | inr h ↦ inr (f h) ])
    (λ a b xs. elim [ inl h ↦ inr (inl h) | inr h ↦ (elim h as (λ _. (x ≡ b) ⊎ ((x ≡ a) ⊎ Has xs x)) [ inl k ↦ inl k | inr k ↦ inr (inr k) ]) ]) (λ xs ys zs f g h. g (f h)) xs ys same

-- two lists that rise and have the same members are one
pub same_rising : {X K : Type 0} {R : K → K → Ordering} → IsTotalOrder R → (key : X → K) (xs ys : List X) → Rises R key xs → Rises R key ys
    → ((x : X) → Has xs x → Has ys x) → ((x : X) → Has ys x → Has xs x) → xs ≡ ys
same_rising total key [] [] up vp f g = refl
same_rising total key [] (y ∷ ys) up vp f g = absurd (g y (inl refl))
same_rising total key (x ∷ xs) [] up vp f g = absurd (f x (inl refl))
same_rising {X} {R = R} total key (x ∷ xs) (y ∷ ys) up vp f g = heads (same_rising total key xs ys up.1 vp.1) (f x (inl refl)) (g y (inl refl))
  where
    never : (z : X) → R (key z) (key z) ≡ Less → ⊥
    never z h = let e = tied_itself total (key z) in cc

    joined : (((z : X) → Has xs z → Has ys z) → ((z : X) → Has ys z → Has xs z) → xs ≡ ys) → x ≡ y → x ∷ xs ≡ y ∷ ys
    joined more is =
        let tails = more
        (λ z h. elim (f z (inr h)) [ inl e ↦ absurd (never z (subst (λ w. R (key w) (key z) ≡ Less) (is ∙ sym e) (has_below _ xs z up.0 h))) | inr k ↦ k ])
        (λ z h. elim (g z (inr h)) [ inl e ↦ absurd (never z (subst (λ w. R (key w) (key z) ≡ Less) (sym is ∙ sym e) (has_below _ ys z vp.0 h))) | inr k ↦ k ]) in
        cc

    heads : (((z : X) → Has xs z → Has ys z) → ((z : X) → Has ys z → Has xs z) → xs ≡ ys) → (x ≡ y) ⊎ Has ys x → (y ≡ x) ⊎ Has xs y → x ∷ xs ≡ y ∷ ys
    heads more (inl is) other = joined more is
    heads more (inr later) (inl is) = joined more (sym is)
    heads more (inr later) (inr earlier) = absurd (never x (total.trans (key x) (key y) (key x) (has_below _ xs y up.0 earlier) (has_below _ ys x vp.0 later)))
