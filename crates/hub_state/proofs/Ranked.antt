-- Rows in order: at which place one goes, and how the rows of one owner are found.
use Rattle.std.proofs.Common.{◌≡◌, ℕ, zero, suc, ◌+◌, ◌-◌, ◌≤◌, ◌<◌, ◌==◌, Bool, true, false, not, List, [], ◌∷◌, ◌++◌, filter, take, drop, length, get_or}
use Rattle.std.proofs.{Common.{if◌then◌else◌, refl, sym, ap, ◌∙◌, subst, arith, true≢false, length-drop}, lemmas.Bool.{not-true, not-false, Decides.nat_tests}}
use Rattle.std.{proofs.lemmas.List.{get_or-drop, drop-drop}, specs.{Cmp.IsTotalOrder, List.{AllWithin, insert, Sorted.{IsPartitionedBy, IsPartitionPoint}}}}
use Rattle.std.specs.{Ordering.{is_lt, is_eq, ordering_reverse}, Prelude.nat_lt, declared.cmp.Ordering.{Ordering, TheVariants.{Less, Equal, Greater}}}
use Rattle.circle.{proofs.{Keeping.{each_put, each_weaker, pairs_left}, Lookup.{filter_drop, filter_take, put_at}}, specs.{Ordered.put_by, Sound.Pairwise}}
use Rattle.{circle.specs.Sound.Each, hub_state.specs.InOrder.{IsInOrder, IsStretch, is_alike}}

-- ---- by place

pub each_at : {X : Type 0} (P : X → Type 0) (xs : List X) → Each P xs → (j : ℕ) (d : X) → j < length xs → P (get_or xs j d)
each_at P [] all j d h = absurd (omega arith)
each_at P (x ∷ xs) all zero d h = all.0
each_at P (x ∷ xs) all (suc j) d h = each_at P xs all.1 j d (omega arith)

pub pairs_at : {X : Type 0} (R : X → X → Type 0) (xs : List X) → Pairwise R xs → (i j : ℕ) (d : X) → i < j → j < length xs → R (get_or xs i d) (get_or xs j d)
pairs_at R [] all i j d h k = absurd (omega arith)
pairs_at R (x ∷ xs) all i zero d h k = absurd (omega arith)
pairs_at R (x ∷ xs) all zero (suc j) d h k = each_at (R x) xs all.0 j d (omega arith)
pairs_at R (x ∷ xs) all (suc i) (suc j) d h k = pairs_at R xs all.1 i j d (omega arith) (omega arith)

-- a test that holds of each row before one of which it holds
pub partitioned : {X : Type 0} (R : X → X → Type 0) (p : X → Bool) (xs : List X) → ((a b : X) → R a b → p b ≡ true → p a ≡ true) → Pairwise R xs → IsPartitionedBy p xs
partitioned R p xs back all i j d h k here = split (i == j) refl
  where
    split : (b : Bool) → (i == j) ≡ b → p (get_or xs i d) ≡ true
    split true is = let same : j ≡ i = grind (arith, nat_tests) in subst (λ m. p (get_or xs m d) ≡ true) same here
    split false is = let low : i < j = grind (arith, nat_tests) in back (get_or xs i d) (get_or xs j d) (pairs_at R xs all i j d low k) here

-- ---- a row that is put

pub put_inserted : {X : Type 0} (cmp : X → X → Ordering) (x : X) (xs : List X) (i : ℕ) → i ≤ length xs →
    IsPartitionPoint (λ y. not (is_lt (cmp x y)) ≡ true) (λ y. not (is_lt (cmp x y)) ≡ false) xs i → insert xs i x ≡ put_by cmp x xs
put_inserted cmp x xs i h parts =
    sym (put_at cmp x i xs h (λ k d low high. not-true (is_lt (cmp x (get_or xs k d))) (parts.0 k d low high)) (λ k d low high. not-false (is_lt (cmp x (get_or xs k d))) (parts.1 k d low high)))

pub put_in_order : {X : Type 0} (cmp : X → X → Ordering) (x : X) (xs : List X) → IsTotalOrder cmp → IsInOrder cmp xs → IsInOrder cmp (put_by cmp x xs)
put_in_order cmp x [] total all = (tt, tt)
put_in_order cmp x (y ∷ ys) total all = split (cmp x y) refl (put_in_order cmp x ys total all.1)
  where
    above : (z : _) → cmp x y ≡ Less → is_lt (cmp z y) ≡ false → is_lt (cmp z x) ≡ false
    above z low h = halves (cmp z x) refl
      where
        halves : (o : Ordering) → cmp z x ≡ o → is_lt o ≡ false
        halves Less e = absurd (true≢false (sym (ap is_lt (total.trans z x y e low)) ∙ h))
        halves Equal e = refl
        halves Greater e = refl

    split : (o : Ordering) → cmp x y ≡ o → IsInOrder cmp (put_by cmp x ys) → IsInOrder cmp (put_by cmp x (y ∷ ys))
    split Less is rest = subst (λ o. IsInOrder cmp (if is_lt o then x ∷ y ∷ ys else y ∷ put_by cmp x ys)) (sym is)
        ((ap is_lt (total.antisymm y x ∙ ap ordering_reverse is), each_weaker (λ z. is_lt (cmp z y) ≡ false) (λ z. is_lt (cmp z x) ≡ false) ys (λ z h. above z is h) all.0), all)
    split Equal is rest = subst (λ o. IsInOrder cmp (if is_lt o then x ∷ y ∷ ys else y ∷ put_by cmp x ys)) (sym is) (each_put (λ z. is_lt (cmp z y) ≡ false) cmp x ys (ap is_lt is) all.0, rest)
    split Greater is rest = subst (λ o. IsInOrder cmp (if is_lt o then x ∷ y ∷ ys else y ∷ put_by cmp x ys)) (sym is) (each_put (λ z. is_lt (cmp z y) ≡ false) cmp x ys (ap is_lt is) all.0, rest)

-- ---- rows next to each other

kept_all : {X : Type 0} (q : X → Bool) (xs : List X) → AllWithin (λ y. q y ≡ false) xs 0 (length xs) → filter (λ y. not (q y)) xs ≡ xs
kept_all q [] all = refl
kept_all q (x ∷ xs) all =
    subst (λ b. (if not b then x ∷ filter (λ y. not (q y)) xs else filter (λ y. not (q y)) xs) ≡ x ∷ xs) (sym (all 0 x (omega arith) (omega arith)))
    (ap (λ l. x ∷ l) (kept_all q xs (λ k d a b. all (suc k) d (omega arith) (omega arith))))

kept_before : {X : Type 0} (q : X → Bool) (xs : List X) (i : ℕ) → i ≤ length xs → AllWithin (λ y. q y ≡ false) xs 0 i → filter (λ y. not (q y)) xs ≡ take i xs ++ filter (λ y. not (q y)) (drop i xs)
kept_before q xs zero h all = refl
kept_before q [] (suc i) h all = absurd (omega arith)
kept_before q (x ∷ xs) (suc i) h all =
    subst (λ b. (if not b then x ∷ filter (λ y. not (q y)) xs else filter (λ y. not (q y)) xs) ≡ x ∷ (take i xs ++ filter (λ y. not (q y)) (drop i xs))) (sym (all 0 x (omega arith) (omega arith)))
    (ap (λ l. x ∷ l) (kept_before q xs i (omega arith) (λ k d a b. all (suc k) d (omega arith) (omega arith))))

pub gone_before : {X : Type 0} (q : X → Bool) (xs : List X) (i : ℕ) → i ≤ length xs → IsPartitionPoint (λ y. q y ≡ true) (λ y. q y ≡ false) xs i → filter (λ y. not (q y)) xs ≡ drop i xs
gone_before q [] zero h parts = refl
gone_before q [] (suc i) h parts = absurd (omega arith)
gone_before q (x ∷ xs) zero h parts = kept_all q (x ∷ xs) parts.1
gone_before q (x ∷ xs) (suc i) h parts =
    subst (λ b. (if not b then x ∷ filter (λ y. not (q y)) xs else filter (λ y. not (q y)) xs) ≡ drop i xs) (sym (parts.0 0 x (omega arith) (omega arith)))
    (gone_before q xs i (omega arith) ((λ k d a b. parts.0 (suc k) d (omega arith) (omega arith)), (λ k d a b. parts.1 (suc k) d (omega arith) (omega arith))))

past : (m n : ℕ) → (m + n) - m ≡ n
past m n = omega arith

pub found_stretch : {X : Type 0} (p q : X → Bool) (xs : List X) (from count : ℕ) → ((a : X) → p a ≡ true → q a ≡ false) → from ≤ length xs → count ≤ length (drop from xs) →
    IsPartitionPoint (λ y. p y ≡ true) (λ y. p y ≡ false) xs from → IsPartitionPoint (λ y. q y ≡ true) (λ y. q y ≡ false) (drop from xs) count → IsStretch q xs from (from + count)
found_stretch p q xs from count apart h k one two =
    let before : AllWithin (λ y. q y ≡ false) xs 0 from = (λ i d a b. apart (get_or xs i d) (one.0 i d a b)) in
    record {
      rising = omega arith;
      within = (let size = length-drop from xs in omega arith);
      is = ap (λ n. take n (drop from xs)) (past from count) ∙ sym (filter_drop q from xs before ∙ filter_take q count (drop from xs) two.0 two.1);
      without = ap (λ l. take from xs ++ l) (sym (drop-drop count from xs)) ∙ sym (kept_before q xs from h before ∙ ap (λ l. take from xs ++ l) (gone_before q (drop from xs) count k two));
    }

pub partitioned_rest : {X : Type 0} (R : X → X → Type 0) (p q : X → Bool) (xs : List X) (from : ℕ) → ((a b : X) → R a b → p a ≡ false → q b ≡ true → q a ≡ true) → from ≤ length xs → Pairwise R xs →
    AllWithin (λ y. p y ≡ false) xs from (length xs) → IsPartitionedBy q (drop from xs)
partitioned_rest R p q xs from back within all high i j d h k there = split (i == j) refl
  where
    long : from + j < length xs
    long = let size = length-drop from xs in omega arith

    split : (b : Bool) → (i == j) ≡ b → q (get_or (drop from xs) i d) ≡ true
    split true is = let same : j ≡ i = grind (arith, nat_tests) in subst (λ m. q (get_or (drop from xs) m d) ≡ true) same there
    split false is =
        let low : i < j = grind (arith, nat_tests) in
        let here : q (get_or xs (from + j) d) ≡ true = subst (λ y. q y ≡ true) (get_or-drop from xs j d) there in
        let one : from + i < from + j = omega arith in
        let first : p (get_or xs (from + i) d) ≡ false = high (from + i) d (omega arith) (let far = long in omega arith) in
        subst (λ y. q y ≡ true) (sym (get_or-drop from xs i d)) (back (get_or xs (from + i) d) (get_or xs (from + j) d) (pairs_at R xs all (from + i) (from + j) d one long) first here)

-- ---- by the order

pub below_back : {X : Type 0} (cmp : X → X → Ordering) → IsTotalOrder cmp → (x a b : X) → is_lt (cmp b a) ≡ false → is_lt (cmp b x) ≡ true → is_lt (cmp a x) ≡ true
below_back cmp total x a b ab bx = split (cmp a b) refl
  where
    low : cmp b x ≡ Less
    low = is_less (cmp b x) bx
      where
        is_less : (o : Ordering) → is_lt o ≡ true → o ≡ Less
        is_less Less e = refl
        is_less Equal e = cc
        is_less Greater e = cc

    split : (o : Ordering) → cmp a b ≡ o → is_lt (cmp a x) ≡ true
    split Less is = ap is_lt (total.trans a b x is low)
    split Equal is = ap is_lt (total.congr a b x is ∙ low)
    split Greater is = absurd (true≢false (sym (ap is_lt (total.antisymm b a ∙ ap ordering_reverse is)) ∙ ab))

pub alike_back : {X : Type 0} (cmp : X → X → Ordering) → IsTotalOrder cmp → (x a b : X) → is_lt (cmp b a) ≡ false → is_lt (cmp a x) ≡ false → is_eq (cmp b x) ≡ true → is_eq (cmp a x) ≡ true
alike_back cmp total x a b ab ax bx = split (cmp a b) refl
  where
    same : cmp b x ≡ Equal
    same = is_equal (cmp b x) bx
      where
        is_equal : (o : Ordering) → is_eq o ≡ true → o ≡ Equal
        is_equal Less e = cc
        is_equal Equal e = refl
        is_equal Greater e = cc

    split : (o : Ordering) → cmp a b ≡ o → is_eq (cmp a x) ≡ true
    split Less is = absurd (true≢false (sym (ap is_lt (total.antisymm a x ∙ ap ordering_reverse (sym (total.congr b x a same) ∙ (total.antisymm b a ∙ ap ordering_reverse is)))) ∙ ax))
    split Equal is = ap is_eq (total.congr a b x is ∙ same)
    split Greater is = absurd (true≢false (sym (ap is_lt (total.antisymm b a ∙ ap ordering_reverse is)) ∙ ab))

-- ---- a row above the one that is put

pub above_back : {X : Type 0} (cmp : X → X → Ordering) → IsTotalOrder cmp → (x a b : X) → is_lt (cmp b a) ≡ false → not (is_lt (cmp x b)) ≡ true → not (is_lt (cmp x a)) ≡ true
above_back cmp total x a b ab xb = split (cmp x a) refl (cmp a b) refl
  where
    lower : is_lt (cmp x b) ≡ true → ⊥
    lower e = true≢false (sym xb ∙ ap not e)

    split : (o : Ordering) → cmp x a ≡ o → (u : Ordering) → cmp a b ≡ u → not (is_lt (cmp x a)) ≡ true
    split Less is Less ab_is = absurd (lower (ap is_lt (total.trans x a b is ab_is)))
    split Less is Equal ab_is = absurd (lower (ap is_lt (total.antisymm x b ∙ ap ordering_reverse (sym (total.congr a b x ab_is) ∙ (total.antisymm a x ∙ ap ordering_reverse is)))))
    split Less is Greater ab_is = absurd (true≢false (sym (ap is_lt (total.antisymm b a ∙ ap ordering_reverse ab_is)) ∙ ab))
    split Equal is u ab_is = ap (λ o. not (is_lt o)) is
    split Greater is u ab_is = ap (λ o. not (is_lt o)) is

-- ---- the ranges that two searches find

owner_back : (a b n : ℕ) → a ≤ b → nat_lt b n ≡ true → nat_lt a n ≡ true
owner_back a b n h k = grind (arith, nat_tests)

owner_same : (a b n : ℕ) → a ≤ b → nat_lt a n ≡ false → (b == n) ≡ true → (a == n) ≡ true
owner_same a b n h k l = grind (arith, nat_tests)

owner_apart : (a n : ℕ) → nat_lt a n ≡ true → (a == n) ≡ false
owner_apart a n h = grind (arith, nat_tests)

alike_apart : (o : Ordering) → is_lt o ≡ true → is_eq o ≡ false
alike_apart Less h = refl
alike_apart Equal h = cc
alike_apart Greater h = refl

pub owned_stretch : {X : Type 0} (cmp : X → X → Ordering) (owner : X → ℕ) (n : ℕ) (xs : List X) (from count : ℕ) → ((a b : X) → is_lt (cmp b a) ≡ false → owner a ≤ owner b) → IsInOrder cmp xs → from ≤ length xs → count ≤ length (drop from xs) →
    (IsPartitionedBy (λ y. nat_lt (owner y) n) xs → IsPartitionPoint (λ y. nat_lt (owner y) n ≡ true) (λ y. nat_lt (owner y) n ≡ false) xs from) →
    (IsPartitionedBy (λ y. owner y == n) (drop from xs) → IsPartitionPoint (λ y. (owner y == n) ≡ true) (λ y. (owner y == n) ≡ false) (drop from xs) count) →
    IsStretch (λ y. owner y == n) xs from (from + count)
owned_stretch cmp owner n xs from count together all h k one two =
    let first : IsPartitionPoint (λ y. nat_lt (owner y) n ≡ true) (λ y. nat_lt (owner y) n ≡ false) xs from = one (partitioned (λ a b. is_lt (cmp b a) ≡ false) (λ y. nat_lt (owner y) n) xs (λ a b r. owner_back (owner a) (owner b) n (together a b r)) all) in
    found_stretch (λ y. nat_lt (owner y) n) (λ y. owner y == n) xs from count (λ a. owner_apart (owner a) n) h k first
    (two (partitioned_rest (λ a b. is_lt (cmp b a) ≡ false) (λ y. nat_lt (owner y) n) (λ y. owner y == n) xs from (λ a b r. owner_same (owner a) (owner b) n (together a b r)) h all first.1))

pub alike_stretch : {X : Type 0} (cmp : X → X → Ordering) (x : X) (xs : List X) (from count : ℕ) → IsTotalOrder cmp → IsInOrder cmp xs → from ≤ length xs → count ≤ length (drop from xs) →
    (IsPartitionedBy (λ y. is_lt (cmp y x)) xs → IsPartitionPoint (λ y. is_lt (cmp y x) ≡ true) (λ y. is_lt (cmp y x) ≡ false) xs from) →
    (IsPartitionedBy (λ y. is_eq (cmp y x)) (drop from xs) → IsPartitionPoint (λ y. is_eq (cmp y x) ≡ true) (λ y. is_eq (cmp y x) ≡ false) (drop from xs) count) →
    IsStretch (λ y. is_alike cmp y x) xs from (from + count)
alike_stretch cmp x xs from count total all h k one two =
    let first : IsPartitionPoint (λ y. is_lt (cmp y x) ≡ true) (λ y. is_lt (cmp y x) ≡ false) xs from = one (partitioned (λ a b. is_lt (cmp b a) ≡ false) (λ y. is_lt (cmp y x)) xs (below_back cmp total x) all) in
    found_stretch (λ y. is_lt (cmp y x)) (λ y. is_eq (cmp y x)) xs from count (λ a. alike_apart (cmp a x)) h k first
    (two (partitioned_rest (λ a b. is_lt (cmp b a) ≡ false) (λ y. is_lt (cmp y x)) (λ y. is_eq (cmp y x)) xs from (alike_back cmp total x) h all first.1))

pub left_in_order : {X : Type 0} (cmp : X → X → Ordering) (p : X → Bool) (xs ys : List X) → ys ≡ filter p xs → IsInOrder cmp xs → IsInOrder cmp ys
left_in_order cmp p xs ys is all = subst (IsInOrder cmp) (sym is) (pairs_left (λ a b. is_lt (cmp b a) ≡ false) p xs all)
