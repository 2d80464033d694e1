-- What is kept of a document is in order: names ascend, and the elements of an array are numbered.
use Rattle.std.proofs.Common.{◌≡◌, ℕ, zero, suc, Bool, true, false, not, List, [], ◌∷◌, ◌++◌, refl, sym, ◌∙◌, ap, subst, ◌&&◌, ◌==◌, Ordering, Less, Equal}
use Rattle.std.proofs.{Common.{Greater, is_eq, is_lt, nat_cmp, Option, Some, None, bytes_eq, true≢false, eq-eqb}, lemmas.Bool.{false≢true, and_parts}}
use Rattle.std.{proofs.lemmas.{Bool.cond_both, Cmp.nat_list_cmp_total, Map.Text.is_eq-slice_cmp}, specs.{Cmp.Lexicographic.slice_cmp, List.AllByRecursion}}
use Rattle.{std.specs.Ordering.ordering_reverse, iodef_tree.{proofs.Order.{bytes_eq-true, bytes_lt-less, bytes_lt-trans}, specs.Laws.AllSiblings}}
use Rattle.iodef_tree.specs.{Sound.{SiblingPlace, may_stand, IsOrderedBehind, IsOrdered}, Text.{Bytes, Tokens, bytes_lt}, Tree.{Leaf, Forest, end, leaf}}
use Rattle.{iodef_tree.specs.Tree.{branch, steps}, redact.{proofs.Fates.{new_place-before, by_fate, put-keeps}, specs.Kept.{Attribute, Verdicts}}}
use Rattle.redact.specs.inner.Judged.{judge, judgment_at, Surrounding, inside, keeps_plain, shows_label, left_before, new_place, left_with, is_end, put_leaf}
use Rattle.redact.specs.inner.Judged.{attribute_leaf, put_attributes, with_label, cut}

-- ---- the order of names

lt-back : (x y : Bytes) → bytes_lt x y ≡ true → bytes_lt y x ≡ false
lt-back x y h = ap is_lt (nat_list_cmp_total.antisymm y x ∙ ap ordering_reverse (bytes_lt-less x y h))

-- of two different names, the first is before the other or behind it
later : (x y : Bytes) → bytes_eq x y ≡ false → bytes_lt y x ≡ false → bytes_lt x y ≡ true
later x y differ h = by_order (slice_cmp nat_cmp x y) refl
  where
    by_order : (o : Ordering) → slice_cmp nat_cmp x y ≡ o → bytes_lt x y ≡ true
    by_order Less e = ap is_lt e
    by_order Equal e = absurd (true≢false (sym (sym (is_eq-slice_cmp x y) ∙ ap is_eq e) ∙ differ))
    by_order Greater e = absurd (true≢false (sym (ap is_lt (nat_list_cmp_total.antisymm y x ∙ ap ordering_reverse e)) ∙ h))

-- ---- siblings that are not kept

-- How siblings follow one another when some are not kept. Of an array, n elements are kept. A line that may be behind
-- the last sibling of the document may be, at its new place, behind the last kept one.
abbrev pub Trails : Option SiblingPlace → Option SiblingPlace → ℕ → Type 0
Trails before before' n = (name : Bytes) (place : Option ℕ) → may_stand before name place ≡ true → may_stand before' name (new_place n place) ≡ true

pub trails-none : Trails None None 0
trails-none name None h = refl
trails-none name (Some zero) h = refl
trails-none name (Some (suc k)) h = refl

-- behind a sibling that is kept
trails-left : (n : ℕ) (a : Bytes) (o : Option ℕ) → Trails (Some (a, o)) (Some (a, new_place n o)) (left_with n o)
trails-left n a o name None h = h
trails-left n a o name (Some zero) h = h
trails-left n a None name (Some (suc k)) h = absurd (false≢true h)
trails-left n a (Some zero) name (Some (suc k)) h = rw (and_parts (bytes_eq a name) (0 == k) h).0
trails-left n a (Some (suc j)) name (Some (suc k)) h = rw ((and_parts (bytes_eq a name) (suc j == k) h).0, eq-eqb n n refl)

-- a line with a later name may be where a sibling may be
may-later : (before : Option SiblingPlace) (a : Bytes) (o : Option ℕ) (name : Bytes) → may_stand before a o ≡ true → bytes_lt a name ≡ true →
    (may_stand before name None ≡ true) × (may_stand before name (Some 0) ≡ true)
may-later None a o name h lt = (refl, refl)
may-later (Some (b, o')) a None name h lt = let k = bytes_lt-trans b a name h lt in (k, k)
may-later (Some (b, o')) a (Some zero) name h lt = let k = bytes_lt-trans b a name h lt in (k, k)
may-later (Some (b, None)) a (Some (suc i)) name h lt = absurd (false≢true h)
may-later (Some (b, Some j)) a (Some (suc i)) name h lt =
    let k = subst (λ x. bytes_lt x name ≡ true) (sym (bytes_eq-true b a (and_parts (bytes_eq b a) (j == i) h).0)) lt in (k, k)

-- behind a sibling that isn't kept
trails-dropped : (before before' : Option SiblingPlace) (n : ℕ) (a : Bytes) (o : Option ℕ) → Trails before before' n → may_stand before a o ≡ true → Trails (Some (a, o)) before' (left_before n o)
trails-dropped before before' n a o t h name None lt = t name None (may-later before a o name h lt).0
trails-dropped before before' n a o t h name (Some zero) lt = t name (Some 0) (may-later before a o name h lt).1
trails-dropped before before' n a None t h name (Some (suc k)) lt = absurd (false≢true lt)
trails-dropped before before' n a (Some j) t h name (Some (suc k)) lt =
    subst (λ x. may_stand before' x (Some (left_before n (Some j))) ≡ true) (bytes_eq-true a name (and_parts (bytes_eq a name) (j == k) lt).0) (rw (new_place-before n j) at (t a (Some j) h))

-- ---- attributes that are put in

-- no sibling has this name
abbrev pub Lacks : Bytes → Forest → Type 0
Lacks x f = AllSiblings (λ n o. bytes_eq n x ≡ false) f

pub lacks-put : (x : Bytes) (y : Leaf) → bytes_eq y.name x ≡ false → (f : Forest) → Lacks x f → Lacks x (put_leaf y f)
lacks-put x y differ = put-keeps (λ f g. Lacks x f → Lacks x g) y (λ f all. (differ, all)) (λ i f g h all. (all.0, h all.1)) (λ name place kids f g h all. (all.0, h all.1))

-- A line behind a sibling may be behind a member with an earlier name, which isn't put into the middle of an array.
stands-put : (before : Option SiblingPlace) (x name : Bytes) (place : Option ℕ) → may_stand before x None ≡ true → may_stand before name place ≡ true → bytes_lt x name ≡ true →
    may_stand (Some (x, None)) name place ≡ true
stands-put before x name None h k lt = lt
stands-put before x name (Some zero) h k lt = lt
stands-put None x name (Some (suc j)) h k lt = absurd (false≢true k)
stands-put (Some (a, None)) x name (Some (suc j)) h k lt = absurd (false≢true k)
stands-put (Some (a, Some i)) x name (Some (suc j)) h k lt =
    let parts = and_parts (bytes_eq a name) (i == j) k in
    absurd (true≢false (sym (subst (λ y. bytes_lt y x ≡ true) (bytes_eq-true a name parts.0) h) ∙ lt-back x name lt))

put-ordered : (f : Forest) (before : Option SiblingPlace) (a : Attribute) → IsOrderedBehind before f → Lacks a.0 f → may_stand before a.0 None ≡ true →
    IsOrderedBehind before (put_leaf (attribute_leaf a) f)
put-ordered end before a order all h = (h, tt)
put-ordered (leaf i rest) before a order all h =
    cond_both (bytes_lt a.0 i.name) _ _ (IsOrderedBehind before)
    (λ lt. (h, (stands-put before a.0 i.name i.place h order.0 lt, order.1)))
    (λ ge. (order.0, put-ordered rest (Some (i.name, i.place)) a order.1 all.1 (later i.name a.0 all.0 ge)))
put-ordered (branch name place kids rest) before a order all h =
    cond_both (bytes_lt a.0 name) _ _ (IsOrderedBehind before)
    (λ lt. (h, (stands-put before a.0 name place h order.0 lt, order.1, order.2)))
    (λ ge. (order.0, order.1, put-ordered rest (Some (name, place)) a order.2 all.1 (later name a.0 all.0 ge)))

-- the members don't have the names of the label's members, which differ
abbrev pub Fits : List Attribute → Forest → Type 0
Fits [] f = Unit {0}
Fits (a ∷ rest) f = Lacks a.0 f × AllByRecursion (λ b. bytes_eq b.0 a.0 ≡ false) rest × Fits rest f

lacks-attributes : (x : Bytes) (label : List Attribute) (f : Forest) → AllByRecursion (λ b. bytes_eq b.0 x ≡ false) label → Lacks x f → Lacks x (put_attributes label f)
lacks-attributes x [] f differ all = all
lacks-attributes x (a ∷ rest) f differ all = lacks-put x (attribute_leaf a) differ.0 (put_attributes rest f) (lacks-attributes x rest f differ.1 all)

attributes-ordered : (label : List Attribute) (f : Forest) → IsOrdered f → Fits label f → IsOrdered (put_attributes label f)
attributes-ordered [] f order fits = order
attributes-ordered (a ∷ rest) f order fits =
    put-ordered (put_attributes rest f) None a (attributes-ordered rest f order fits.2) (lacks-attributes a.0 rest f fits.1 fits.0) refl

-- ---- the pass

module _ (v : Verdicts) where
  -- no class without a written label has a member of a label
  abbrev pub LabelsFit : Tokens → Forest → Type 0
  LabelsFit p end = Unit {0}
  LabelsFit p (leaf i rest) = LabelsFit p rest
  LabelsFit p (branch name place kids rest) =
      let q = p ++ steps name place in (v.unmarked q ≡ true → Fits (v.label q) kids) × LabelsFit q kids × LabelsFit p rest

  pub lacks-cut : (x : Bytes) (f : Forest) (h : Surrounding) (p : Tokens) (n : ℕ) → Lacks x f → Lacks x (cut h n (judge v p f))
  lacks-cut x end h p n all = tt
  lacks-cut x (leaf i rest) h p n all =
      cond_both (keeps_plain h) _ _ (Lacks x) (λ _. (all.0, lacks-cut x rest h p (left_with n i.place) all.1)) (λ _. lacks-cut x rest h p (left_before n i.place) all.1)
  lacks-cut x (branch name place kids rest) h p n all =
      let after : (bytes_eq name x ≡ false) × Lacks x (cut h (left_with n place) (judge v p rest)) = (all.0, lacks-cut x rest h p (left_with n place) all.1) in
      by_fate (Lacks x) (v.visible (p ++ steps name place)) (is_end (cut (inside false) 0 (judge v (p ++ steps name place) kids))) _ _ _ after after (lacks-cut x rest h p (left_before n place) all.1)

  fits-cut : (label : List Attribute) (f : Forest) (h : Surrounding) (p : Tokens) (n : ℕ) → Fits label f → Fits label (cut h n (judge v p f))
  fits-cut [] f h p n fits = tt
  fits-cut (a ∷ rest) f h p n fits = (lacks-cut a.0 f h p n fits.0, fits.1, fits-cut rest f h p n fits.2)

  label-ordered : (h : Surrounding) (p : Tokens) (f : Forest) → IsOrdered f → (v.unmarked p ≡ true → Fits (v.label p) f) → IsOrdered (with_label h (judgment_at v p) f)
  label-ordered h p f order fits =
      cond_both (v.unmarked p && not (shows_label h)) _ _ IsOrdered (λ says. attributes-ordered (v.label p) f order (fits (and_parts (v.unmarked p) _ says).0)) (λ _. order)

  pub ordered-cut : (f : Forest) (h : Surrounding) (p : Tokens) (n : ℕ) (before before' : Option SiblingPlace) → IsOrderedBehind before f → LabelsFit p f → Trails before before' n →
      IsOrderedBehind before' (cut h n (judge v p f))
  ordered-cut end h p n before before' order fit t = tt
  ordered-cut (leaf i rest) h p n before before' order fit t =
      cond_both (keeps_plain h) _ _ (IsOrderedBehind before')
      (λ _. (t i.name i.place order.0, ordered-cut rest h p (left_with n i.place) (Some (i.name, i.place)) (Some (i.name, new_place n i.place)) order.1 fit (trails-left n i.name i.place)))
      (λ _. ordered-cut rest h p (left_before n i.place) (Some (i.name, i.place)) before' order.1 fit (trails-dropped before before' n i.name i.place t order.0))
  ordered-cut (branch name place kids rest) h p n before before' order fit t =
      let q = p ++ steps name place in
      let J = judge v q kids in
      let below : (b : Bool) → IsOrdered (cut (inside b) 0 J) = λ b. ordered-cut kids (inside b) q 0 None None order.1 fit.1 trails-none in
      let stands = t name place order.0 in
      let after = ordered-cut rest h p (left_with n place) (Some (name, place)) (Some (name, new_place n place)) order.2 fit.2 (trails-left n name place) in
      by_fate (IsOrderedBehind before') (v.visible q) (is_end (cut (inside false) 0 J)) _ _ _
      (stands, label-ordered h q (cut (inside true) 0 J) (below true) (λ u. fits-cut (v.label q) kids (inside true) q 0 (fit.0 u)), after)
      (stands, below false, after)
      (ordered-cut rest h p (left_before n place) (Some (name, place)) before' order.2 fit.2 (trails-dropped before before' n name place t order.0))
