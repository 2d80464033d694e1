-- The list of what is withheld, in order and without repeats, is one list.
use Rattle.std.{proofs.Common.{◌≡◌, ◌⊎◌, inl, inr, ℕ, zero, suc, ◌<◌, List, [], ◌∷◌, length, get_or, refl, sym, ◌∙◌, ap, subst, arith}, specs.Cmp.IsTotalOrder}
use Rattle.std.specs.{List.{AllByRecursion, Sorted.IsStrictlySortedBy}, Ordering.{ordering_reverse, is_eq}, Prelude.Contains, declared.cmp.Ordering.Ordering}
use Rattle.{std.specs.declared.cmp.Ordering.TheVariants.{Less, Equal, Greater}, redact.proofs.Listing.{withheld-total, withheld-same, among-contains}}
use Rattle.redact.specs.{Withheld.{Withheld, withheld_cmp, is_among, insert_withheld_by, insert_withheld, withheld_in_order, Lists}, inner.Ties.withheld-ties}

abbrev pub In : {X : Type 0} → List X → X → Type 0
In [] x = ⊥
In (y ∷ ys) x = (y ≡ x) ⊎ In ys x

in_at : {X : Type 0} (xs : List X) (k : ℕ) (x : X) → k < length xs → get_or xs k x ≡ x → In xs x
in_at [] k x low h = absurd (omega (arith, low))
in_at (y ∷ ys) zero x low h = inl h
in_at (y ∷ ys) (suc k) x low h = inr (in_at ys k x (omega (arith, low)) h)

pub in_contained : {X : Type 0} (xs : List X) (x : X) → Contains xs x → In xs x
in_contained xs x h = in_at xs h.0 x h.1 h.2

pub contains_in : {X : Type 0} (xs : List X) (x : X) → In xs x → Contains xs x
contains_in [] x h = absurd h
contains_in (y ∷ ys) x (inl h) = (0, omega arith, h)
contains_in (y ∷ ys) x (inr h) = let r = contains_in ys x h in (suc r.0, omega (arith, r.1), r.2)

-- ---- two sorted lists of the same pairs

module _ {X : Type 0} (R : X → X → Ordering) (o : IsTotalOrder R) where
  not_both : (x y : X) → R x y ≡ Less → R y x ≡ Less → ⊥
  not_both x y up down = let h : Less ≡ Greater = sym up ∙ o.antisymm x y ∙ ap ordering_reverse down in cc

  in_above : (x z : X) (ys : List X) → AllByRecursion (λ y. R x y ≡ Less) ys → In ys z → R x z ≡ Less
  in_above x z [] h in_it = absurd in_it
  in_above x z (y ∷ ys) h (inl same) = subst (λ w. R x w ≡ Less) same h.0
  in_above x z (y ∷ ys) h (inr later) = in_above x z ys h.1 later

  same_head : (x y : X) (xs ys : List X) → IsStrictlySortedBy R (x ∷ xs) → IsStrictlySortedBy R (y ∷ ys) → In (y ∷ ys) x → In (x ∷ xs) y → x ≡ y
  unfolding IsStrictlySortedBy
  same_head x y xs ys sx sy (inl h) k = sym h
  same_head x y xs ys sx sy (inr h) (inl k) = k
  same_head x y xs ys sx sy (inr h) (inr k) = absurd (not_both x y (in_above x y xs sx.0 k) (in_above y x ys sy.0 h))

  behind : (x y z : X) (xs ys : List X) → x ≡ y → AllByRecursion (λ w. R x w ≡ Less) xs → In xs z → In (y ∷ ys) z → In ys z
  behind x y z xs ys same low here (inl h) =
      let up : R x z ≡ Less = in_above x z xs low here in
      let turned : R z x ≡ Less = subst (λ w. R w x ≡ Less) (same ∙ h) (subst (λ w. R x w ≡ Less) (sym (same ∙ h)) up) in
      absurd (not_both x z up turned)
  behind x y z xs ys same low here (inr h) = h

  same_sorted : (xs ys : List X) → IsStrictlySortedBy R xs → IsStrictlySortedBy R ys → ((z : X) → In xs z → In ys z) → ((z : X) → In ys z → In xs z) → xs ≡ ys
  unfolding IsStrictlySortedBy
  same_sorted [] [] sx sy to back = refl
  same_sorted [] (y ∷ ys) sx sy to back = absurd (back y (inl refl))
  same_sorted (x ∷ xs) [] sx sy to back = absurd (to x (inl refl))
  same_sorted (x ∷ xs) (y ∷ ys) sx sy to back =
      let same : x ≡ y = same_head x y xs ys sx sy (to x (inl refl)) (back y (inl refl)) in
      ap (λ w. w ∷ xs) same
      ∙ ap (λ ws. y ∷ ws) (same_sorted xs ys sx.1 sy.1 (λ z h. behind x y z xs ys same sx.0 h (to z (inr h))) (λ z h. behind y x z ys xs (sym same) sy.0 h (back z (inr h))))

-- ---- putting in order

all_noted_by : (P : Withheld → Type 0) (o : Ordering) (x y : Withheld) (ys rest : List Withheld) → P x → P y → AllByRecursion P ys → AllByRecursion P rest → AllByRecursion P (insert_withheld_by o x y ys rest)
all_noted_by P Less x y ys rest px py pys prest = (px, (py, pys))
all_noted_by P Equal x y ys rest px py pys prest = (py, pys)
all_noted_by P Greater x y ys rest px py pys prest = (py, prest)

all_noted : (P : Withheld → Type 0) (x : Withheld) (ys : List Withheld) → P x → AllByRecursion P ys → AllByRecursion P (insert_withheld x ys)
all_noted P x [] px h = (px, tt)
all_noted P x (y ∷ ys) px h = all_noted_by P (withheld_cmp x y) x y ys (insert_withheld x ys) px h.0 h.1 (all_noted P x ys px h.1)

above_all : (x y : Withheld) (ys : List Withheld) → withheld_cmp x y ≡ Less → AllByRecursion (λ z. withheld_cmp y z ≡ Less) ys → AllByRecursion (λ z. withheld_cmp x z ≡ Less) ys
above_all x y [] up h = tt
above_all x y (z ∷ zs) up h = (withheld-total.trans x y z up h.0, above_all x y zs up h.1)

noted_sorted : (x : Withheld) (ys : List Withheld) → IsStrictlySortedBy withheld_cmp ys → IsStrictlySortedBy withheld_cmp (insert_withheld x ys)
unfolding IsStrictlySortedBy
noted_sorted x [] h = (tt, tt)
noted_sorted x (y ∷ ys) h = by_case (withheld_cmp x y) refl (noted_sorted x ys h.1)
  where
    by_case : (o : Ordering) → withheld_cmp x y ≡ o → IsStrictlySortedBy withheld_cmp (insert_withheld x ys) → IsStrictlySortedBy withheld_cmp (insert_withheld_by o x y ys (insert_withheld x ys))
    by_case Less is later = ((is, above_all x y ys is h.0), h)
    by_case Equal is later = h
    by_case Greater is later =
        let low : withheld_cmp y x ≡ Less = withheld-total.antisymm y x ∙ ap ordering_reverse is in
        (all_noted (λ z. withheld_cmp y z ≡ Less) x ys low h.0, later)

in_order_sorted : (xs : List Withheld) → IsStrictlySortedBy withheld_cmp (withheld_in_order xs)
unfolding IsStrictlySortedBy
in_order_sorted [] = tt
in_order_sorted (x ∷ xs) = noted_sorted x (withheld_in_order xs) (in_order_sorted xs)

-- a pair of the new list is the pair put in or one that was there
noted_from : (x z : Withheld) (ys : List Withheld) → In (insert_withheld x ys) z → In (x ∷ ys) z
noted_from x z [] h = h
noted_from x z (y ∷ ys) h = by_case (withheld_cmp x y) h (noted_from x z ys)
  where
    by_case : (o : Ordering) → In (insert_withheld_by o x y ys (insert_withheld x ys)) z → (In (insert_withheld x ys) z → In (x ∷ ys) z) → In (x ∷ y ∷ ys) z
    by_case Less h later = h
    by_case Equal h later = inr h
    by_case Greater (inl h) later = inr (inl h)
    by_case Greater (inr h) later = elim (later h) [ inl k ↦ inl k | inr k ↦ inr (inr k) ]

tied : (x y : Withheld) → withheld_cmp x y ≡ Equal → x ≡ y
tied x y h = withheld-same x y (withheld-ties x y ∙ ap is_eq h)

-- the pair put in and those that were there are in the new list
noted_to : (x z : Withheld) (ys : List Withheld) → In (x ∷ ys) z → In (insert_withheld x ys) z
noted_to x z [] h = h
noted_to x z (y ∷ ys) h = by_case (withheld_cmp x y) refl h (noted_to x z ys)
  where
    by_case : (o : Ordering) → withheld_cmp x y ≡ o → In (x ∷ y ∷ ys) z → (In (x ∷ ys) z → In (insert_withheld x ys) z) → In (insert_withheld_by o x y ys (insert_withheld x ys)) z
    by_case Less is h later = h
    by_case Equal is (inl h) later = inl (sym (tied x y is) ∙ h)
    by_case Equal is (inr h) later = h
    by_case Greater is (inl h) later = inr (later (inl h))
    by_case Greater is (inr (inl h)) later = inl h
    by_case Greater is (inr (inr h)) later = inr (later (inr h))

ordered_from : (xs : List Withheld) (z : Withheld) → In (withheld_in_order xs) z → In xs z
ordered_from [] z h = h
ordered_from (x ∷ xs) z h = elim (noted_from x z (withheld_in_order xs) h) [ inl k ↦ inl k | inr k ↦ inr (ordered_from xs z k) ]

ordered_to : (xs : List Withheld) (z : Withheld) → In xs z → In (withheld_in_order xs) z
ordered_to [] z h = h
ordered_to (x ∷ xs) z (inl h) = noted_to x z (withheld_in_order xs) (inl h)
ordered_to (x ∷ xs) z (inr h) = noted_to x z (withheld_in_order xs) (inr (ordered_to xs z h))

-- the ordered list is a list of the same pairs
pub order-lists : (pairs : List Withheld) → Lists pairs (withheld_in_order pairs)
order-lists pairs = record {
  ascending = in_order_sorted pairs;
  sound = λ z k. contains_in pairs z (ordered_from pairs z (in_contained (withheld_in_order pairs) z k));
  complete = λ z k. contains_in (withheld_in_order pairs) z (ordered_to pairs z (in_contained pairs z k));
}

-- a list of the pairs in order is that of the definition
pub listed_in_order : (pairs listed : List Withheld) → Lists pairs listed → listed ≡ withheld_in_order pairs
listed_in_order pairs listed h =
    same_sorted withheld_cmp withheld-total listed (withheld_in_order pairs) h.ascending (in_order_sorted pairs)
    (λ z k. ordered_to pairs z (in_contained pairs z (h.sound z (contains_in listed z k))))
    (λ z k. in_contained listed z (h.complete z (contains_in pairs z (ordered_from pairs z k))))

-- lists of the same pairs have one order
pub same_in_order : (xs ys : List Withheld) → ((x : Withheld) → is_among xs x ≡ is_among ys x) → withheld_in_order xs ≡ withheld_in_order ys
same_in_order xs ys same = same_sorted withheld_cmp withheld-total (withheld_in_order xs) (withheld_in_order ys) (in_order_sorted xs) (in_order_sorted ys)
    (λ z k. ordered_to ys z (in_contained ys z (among-contains xs ys same z (contains_in xs z (ordered_from xs z k)))))
    (λ z k. ordered_to xs z (in_contained xs z (among-contains ys xs (λ y. sym (same y)) z (contains_in ys z (ordered_from ys z k)))))
