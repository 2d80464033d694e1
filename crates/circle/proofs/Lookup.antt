-- Looking rows up: the rows with a key, by halving.
use Rattle.std.proofs.Common.{◌≡◌, ℕ, zero, suc, ◌+◌, ◌-◌, ◌≤◌, ◌<◌, ◌==◌, ◌&&◌, ◌||◌, not, Bool, true, false, List, [], ◌∷◌, filter, length, take, drop}
use Rattle.std.proofs.{Common.{get_or, Some, if◌then◌else◌, refl, sym, ap, ◌∙◌, subst, arith}, lemmas.{Bool.Decides.nat_tests, List.{get_or-drop, length-drop}}}
use Rattle.std.specs.{List.{list_any, AllWithin, insert, Sorted.IsPartitionedBy}, Ordering.is_lt, Prelude.{find, slice_get}, declared.cmp.Ordering.Ordering}
use Rattle.circle.specs.{Ordered.{pair_cmp, put_by, by_pair}, Sound.Each, Stretches.{same_pair, Ascend, having}}

-- ---- pairs

pub below_both : (a b k : ℕ × ℕ) → is_lt (pair_cmp b a) ≡ false → is_lt (pair_cmp b k) ≡ true → is_lt (pair_cmp a k) ≡ true
below_both a b k up here = grind (arith, nat_tests)

pub within_both : (a b k : ℕ × ℕ) → is_lt (pair_cmp b a) ≡ false → not (is_lt (pair_cmp k b)) ≡ true → not (is_lt (pair_cmp k a)) ≡ true
within_both a b k up here = grind (arith, nat_tests)

pub not_below_itself : (a : ℕ × ℕ) → is_lt (pair_cmp a a) ≡ false
not_below_itself a = grind (arith, nat_tests)

pub is_same : (a k : ℕ × ℕ) → is_lt (pair_cmp a k) ≡ false → is_lt (pair_cmp k a) ≡ false → same_pair a k ≡ true
is_same a k above below = grind (arith, nat_tests)

pub below_differs : (a k : ℕ × ℕ) → is_lt (pair_cmp a k) ≡ true → same_pair a k ≡ false
below_differs a k h = grind (arith, nat_tests)

pub above_differs : (a k : ℕ × ℕ) → is_lt (pair_cmp k a) ≡ true → same_pair a k ≡ false
above_differs a k h = grind (arith, nat_tests)

-- ---- places

each_at : {X : Type 0} (P : X → Type 0) (xs : List X) → Each P xs → (i : ℕ) (d : X) → i < length xs → P (get_or xs i d)
each_at P [] all i d h = absurd (omega arith)
each_at P (x ∷ xs) all zero d h = all.0
each_at P (x ∷ xs) all (suc i) d h = each_at P xs all.1 i d (omega arith)

-- a row isn't below one at an earlier place
ascend_far : {X : Type 0} (key : X → ℕ × ℕ) (xs : List X) → Ascend key xs → (i j : ℕ) (d : X) → i ≤ j → j < length xs → is_lt (by_pair key (get_or xs j d) (get_or xs i d)) ≡ false
ascend_far key [] up i j d le lt = absurd (omega arith)
ascend_far key (x ∷ xs) up zero zero d le lt = not_below_itself (key x)
ascend_far key (x ∷ xs) up zero (suc j) d le lt = each_at (λ b. is_lt (by_pair key b x) ≡ false) xs up.0 j d (omega arith)
ascend_far key (x ∷ xs) up (suc i) zero d le lt = absurd (omega arith)
ascend_far key (x ∷ xs) up (suc i) (suc j) d le lt = ascend_far key xs up.1 i j d (omega arith) (omega arith)

pub parted_below : {X : Type 0} (key : X → ℕ × ℕ) (k : ℕ × ℕ) (xs : List X) → Ascend key xs → IsPartitionedBy (λ x. is_lt (pair_cmp (key x) k)) xs
parted_below key k xs up i j d le lt here = below_both (key (get_or xs i d)) (key (get_or xs j d)) k (ascend_far key xs up i j d le lt) here

pub parted_within : {X : Type 0} (key : X → ℕ × ℕ) (k : ℕ × ℕ) (xs : List X) → Ascend key xs → IsPartitionedBy (λ x. not (is_lt (pair_cmp k (key x)))) xs
parted_within key k xs up i j d le lt here = within_both (key (get_or xs i d)) (key (get_or xs j d)) k (ascend_far key xs up i j d le lt) here

pub ascend_drop : {X : Type 0} (key : X → ℕ × ℕ) (n : ℕ) (xs : List X) → Ascend key xs → Ascend key (drop n xs)
ascend_drop key zero xs up = up
ascend_drop key (suc n) [] up = up
ascend_drop key (suc n) (x ∷ xs) up = ascend_drop key n xs up.1

-- ---- filters

-- no row is missed if the first rows fail a test
pub filter_drop : {X : Type 0} (p : X → Bool) (n : ℕ) (xs : List X) → AllWithin (λ x. p x ≡ false) xs 0 n → filter p xs ≡ filter p (drop n xs)
filter_drop p zero xs none = refl
filter_drop p (suc n) [] none = refl
filter_drop p (suc n) (x ∷ xs) none = ap (λ b. if b then x ∷ filter p xs else filter p xs) (none 0 x (omega arith) (omega arith)) ∙ filter_drop p n xs (λ k d low high. none (suc k) d (omega arith) (omega arith))

filter_none : {X : Type 0} (p : X → Bool) (xs : List X) → AllWithin (λ x. p x ≡ false) xs 0 (length xs) → filter p xs ≡ []
filter_none p [] none = refl
filter_none p (x ∷ xs) none = ap (λ b. if b then x ∷ filter p xs else filter p xs) (none 0 x (omega arith) (omega arith)) ∙ filter_none p xs (λ k d low high. none (suc k) d (omega arith) (omega arith))

-- if the first rows pass a test and no others do, they are the rows that are kept
pub filter_take : {X : Type 0} (p : X → Bool) (n : ℕ) (xs : List X) → AllWithin (λ x. p x ≡ true) xs 0 n → AllWithin (λ x. p x ≡ false) xs n (length xs) → filter p xs ≡ take n xs
filter_take p zero xs all none = filter_none p xs none
filter_take p (suc n) [] all none = refl
filter_take p (suc n) (x ∷ xs) all none = ap (λ b. if b then x ∷ filter p xs else filter p xs) (all 0 x (omega arith) (omega arith)) ∙ ap (λ ys. x ∷ ys) (filter_take p n xs (λ k d low high. all (suc k) d (omega arith) (omega arith)) (λ k d low high. none (suc k) d (omega arith) (omega arith)))

pub not_true : (b : Bool) → not b ≡ true → b ≡ false
not_true true h = sym h
not_true false h = refl

pub not_false : (b : Bool) → not b ≡ false → b ≡ true
not_false true h = refl
not_false false h = sym h

-- if rows ascend, those with a key are the stretch behind the rows below it
pub stretch : {X : Type 0} (key : X → ℕ × ℕ) (k : ℕ × ℕ) (xs ys : List X) (from until : ℕ) → ys ≡ drop from xs →
    AllWithin (λ x. is_lt (pair_cmp (key x) k) ≡ true) xs 0 from → AllWithin (λ x. is_lt (pair_cmp (key x) k) ≡ false) xs from (length xs) →
    AllWithin (λ x. is_lt (pair_cmp k (key x)) ≡ false) ys 0 until → AllWithin (λ x. is_lt (pair_cmp k (key x)) ≡ true) ys until (length ys) →
    until ≤ length ys → filter (λ x. same_pair (key x) k) xs ≡ take until ys
stretch key k xs ys from until cut below rest within above high =
    filter_drop (λ x. same_pair (key x) k) from xs (λ i d l h. below_differs (key (get_or xs i d)) k (below i d l h))
    ∙ (ap (λ zs. filter (λ x. same_pair (key x) k) zs) (sym cut)
    ∙ filter_take (λ x. same_pair (key x) k) until ys
    (λ i d l h. is_same (key (get_or ys i d)) k (behind i d (omega arith)) (within i d l h))
    (λ i d l h. above_differs (key (get_or ys i d)) k (above i d l h)))
  where
    place : (i : ℕ) (d : _) → get_or ys i d ≡ get_or xs (from + i) d
    place i d = ap (λ zs. get_or zs i d) cut ∙ get_or-drop from xs i d

    long : length ys ≡ length xs - from
    long = ap length cut ∙ length-drop from xs

    behind : (i : ℕ) (d : _) → i < length ys → is_lt (pair_cmp (key (get_or ys i d)) k) ≡ false
    behind i d h = ap (λ x. is_lt (pair_cmp (key x) k)) (place i d) ∙ rest (from + i) d (omega arith) (omega (arith, long))

-- ---- a row put in

put_first : {X : Type 0} (cmp : X → X → Ordering) (x : X) (xs : List X) → AllWithin (λ y. is_lt (cmp x y) ≡ true) xs 0 (length xs) → put_by cmp x xs ≡ x ∷ xs
put_first cmp x [] above = refl
put_first cmp x (y ∷ ys) above = ap (λ b. if b then x ∷ y ∷ ys else y ∷ put_by cmp x ys) (above 0 y (omega arith) (omega arith))

-- a row is put in at the place of the first row above it
pub put_at : {X : Type 0} (cmp : X → X → Ordering) (x : X) (n : ℕ) (xs : List X) → n ≤ length xs → AllWithin (λ y. is_lt (cmp x y) ≡ false) xs 0 n → AllWithin (λ y. is_lt (cmp x y) ≡ true) xs n (length xs) → put_by cmp x xs ≡ insert xs n x
put_at cmp x zero xs room within above = put_first cmp x xs above
put_at cmp x (suc n) [] room within above = absurd (omega arith)
put_at cmp x (suc n) (y ∷ ys) room within above =
    ap (λ b. if b then x ∷ y ∷ ys else y ∷ put_by cmp x ys) (within 0 y (omega arith) (omega arith))
    ∙ ap (λ zs. y ∷ zs) (put_at cmp x n ys (omega arith) (λ k d low high. within (suc k) d (omega arith) (omega arith)) (λ k d low high. above (suc k) d (omega arith) (omega arith)))

pub put_parted : {X : Type 0} (key : X → ℕ × ℕ) (x : X) (k : ℕ × ℕ) (zs xs : List X) (n : ℕ) → zs ≡ xs → k ≡ key x → n ≤ length zs → AllWithin (λ y. is_lt (pair_cmp k (key y)) ≡ false) zs 0 n → AllWithin (λ y. is_lt (pair_cmp k (key y)) ≡ true) zs n (length zs) → put_by (by_pair key) x xs ≡ insert xs n x
put_parted {X} key x k zs xs n same is room within above =
    let P : List X → Type 0 = λ ys. put_by (by_pair key) x ys ≡ insert ys n x in
    subst P same (put_at (by_pair key) x n zs room
    (λ i d low high. ap (λ j. is_lt (pair_cmp j (key (get_or zs i d)))) (sym is) ∙ within i d low high)
    (λ i d low high. ap (λ j. is_lt (pair_cmp j (key (get_or zs i d)))) (sym is) ∙ above i d low high))

-- ---- rows with a key

-- whether some row passes both tests
pub any_having : {X : Type 0} (p q : X → Bool) (xs : List X) → list_any q (filter p xs) ≡ list_any (λ x. p x && q x) xs
any_having p q [] = refl
any_having p q (x ∷ xs) = split (p x) (any_having p q xs)
  where
    split : (b : Bool) → list_any q (filter p xs) ≡ list_any (λ y. p y && q y) xs → list_any q (if b then x ∷ filter p xs else filter p xs) ≡ ((b && q x) || list_any (λ y. p y && q y) xs)
    split true h = ap (λ b. q x || b) h
    split false h = h

-- whether some row passes the test
pub some_having : {X : Type 0} (p : X → Bool) (xs : List X) → not (length (filter p xs) == 0) ≡ list_any p xs
some_having p [] = refl
some_having p (x ∷ xs) = split (p x) (some_having p xs)
  where
    split : (b : Bool) → not (length (filter p xs) == 0) ≡ list_any p xs → not (length (if b then x ∷ filter p xs else filter p xs) == 0) ≡ (b || list_any p xs)
    split true h = grind (arith, nat_tests)
    split false h = h

-- the first row that passes the test
pub first_having : {X : Type 0} (p : X → Bool) (xs : List X) → slice_get (filter p xs) 0 ≡ find p xs
first_having p [] = refl
first_having p (x ∷ xs) = split (p x) (first_having p xs)
  where
    split : (b : Bool) → slice_get (filter p xs) 0 ≡ find p xs → slice_get (if b then x ∷ filter p xs else filter p xs) 0 ≡ (if b then Some x else find p xs)
    split true h = refl
    split false h = h

-- a row with a key that passes a test is found among the rows with the key
pub found_with : {X : Type 0} (key : X → ℕ × ℕ) (k : ℕ × ℕ) (q : X → Bool) (xs slice rows : List X) → slice ≡ xs → (Ascend key slice → rows ≡ having key k slice) → Ascend key xs → list_any q rows ≡ list_any (λ x. same_pair (key x) k && q x) xs
found_with key k q xs slice rows same found up =
    ap (λ l. list_any q l) (found (subst (Ascend key) (sym same) up) ∙ ap (having key k) same) ∙ any_having (λ x. same_pair (key x) k) q xs
