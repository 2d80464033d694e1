-- What stays true of rows when one is put in or taken out.
use Rattle.std.proofs.Common.{◌≡◌, ◌≢◌, ℕ, ◌+◌, ◌≤◌, ◌<◌, ◌==◌, ◌&&◌, ◌||◌, Bool, true, false, List, [], ◌∷◌, map, filter, length, max, min, IsTrue}
use Rattle.std.proofs.{Common.{if◌then◌else◌, refl, sym, ap, ◌∙◌, subst, arith}, lemmas.{Bool.Decides.nat_tests, Cmp.{nat_cmp_total, on_total, then_total}}}
use Rattle.std.{proofs.lemmas.{Grind.common_steps, Slice.Eq.bytes_eq-Decides}, specs.{Cmp.IsTotalOrder, List.list_any, Ordering.{is_lt, nat_cmp}}}
use Rattle.std.specs.{Ordering.ordering_reverse, Prelude.nat_le, Str.bytes_eq, declared.cmp.Ordering.{Ordering, TheVariants.{Less, Equal, Greater}}}
use Rattle.circle.specs.{Ordered.{put_by, pair_cmp, by_number, by_pair}, Sound.{Pairwise, Each, CountsFrom, IsNumbered, Differ, Rise, Names}}

-- ---- each row

pub each_put : {X : Type 0} (P : X → Type 0) (cmp : X → X → Ordering) (x : X) (xs : List X) → P x → Each P xs → Each P (put_by cmp x xs)
each_put P cmp x [] here all = (here, tt)
each_put P cmp x (y ∷ ys) here all = elim (is_lt (cmp x y)) as (λ b. Each P (if b then x ∷ y ∷ ys else y ∷ put_by cmp x ys)) [ true ↦ (here, all) | false ↦ (all.0, each_put P cmp x ys here all.1) ]

pub each_left : {X : Type 0} (P : X → Type 0) (p : X → Bool) (xs : List X) → Each P xs → Each P (filter p xs)
each_left P p [] all = tt
each_left P p (x ∷ xs) all = elim (p x) as (λ b. Each P (if b then x ∷ filter p xs else filter p xs)) [ true ↦ (all.0, each_left P p xs all.1) | false ↦ each_left P p xs all.1 ]

pub each_weaker : {X : Type 0} (P Q : X → Type 0) (xs : List X) → ((x : X) → P x → Q x) → Each P xs → Each Q xs
each_weaker P Q [] go all = tt
each_weaker P Q (x ∷ xs) go all = (go x all.0, each_weaker P Q xs go all.1)

-- ---- each pair of rows

pub pairs_left : {X : Type 0} (R : X → X → Type 0) (p : X → Bool) (xs : List X) → Pairwise R xs → Pairwise R (filter p xs)
pairs_left R p [] all = tt
pairs_left R p (x ∷ xs) all = elim (p x) as (λ b. Pairwise R (if b then x ∷ filter p xs else filter p xs)) [ true ↦ (each_left (R x) p xs all.0, pairs_left R p xs all.1) | false ↦ pairs_left R p xs all.1 ]

-- a new row to which the relation holds, whichever row comes first
pub pairs_put : {X : Type 0} (R : X → X → Type 0) (cmp : X → X → Ordering) (x : X) (xs : List X) → Each (λ y. R x y × R y x) xs → Pairwise R xs → Pairwise R (put_by cmp x xs)
pairs_put R cmp x [] new all = (tt, tt)
pairs_put R cmp x (y ∷ ys) new all = elim (is_lt (cmp x y)) as (λ b. Pairwise R (if b then x ∷ y ∷ ys else y ∷ put_by cmp x ys)) [
  | true ↦ ((new.0.0, each_weaker (λ z. R x z × R z x) (R x) ys (λ z h. h.0) new.1), all)
  | false ↦ (each_put (R y) cmp x ys new.0.1 all.0, pairs_put R cmp x ys new.1 all.1)
]

-- ---- a row with the next number

pub length_put : {X : Type 0} (cmp : X → X → Ordering) (x : X) (xs : List X) → length (put_by cmp x xs) ≡ length xs + 1
length_put cmp x [] = refl
length_put cmp x (y ∷ ys) = elim (is_lt (cmp x y)) as (λ b. length (if b then x ∷ y ∷ ys else y ∷ put_by cmp x ys) ≡ length (y ∷ ys) + 1) [ true ↦ omega arith | false ↦ let rest = length_put cmp x ys in omega arith ]

not_below : (a b : ℕ) → b < a → is_lt (nat_cmp a b) ≡ false
not_below a b h = grind (arith, nat_tests)

pub counts_put : {X : Type 0} (number : X → ℕ) (n : ℕ) (x : X) (xs : List X) → number x ≡ n + length xs + 1 → CountsFrom number n xs → CountsFrom number n (put_by (by_number number) x xs)
counts_put number n x [] next all = (omega arith, tt)
counts_put number n x (y ∷ ys) next all =
    let first : number y ≡ n + 1 = all.0 in
    let past : is_lt (nat_cmp (number x) (number y)) ≡ false = not_below (number x) (number y) (omega arith) in
    subst (λ b. CountsFrom number n (if b then x ∷ y ∷ ys else y ∷ put_by (by_number number) x ys)) (sym past)
    (all.0, counts_put number (n + 1) x ys (omega arith) all.1)

pub numbered_put : {X : Type 0} (number : X → ℕ) (limit : ℕ) (x : X) (xs : List X) → number x ≡ length xs + 1 → length xs < limit → IsNumbered number limit xs → IsNumbered number limit (put_by (by_number number) x xs)
numbered_put number limit x xs next room all = (counts_put number 0 x xs (omega arith) all.0, let long = length_put (by_number number) x xs in omega arith)

-- ---- a row in the order of its key

pub order_put : {X : Type 0} (cmp : X → X → Ordering) (x : X) (xs : List X) → IsTotalOrder cmp → Each (λ y. cmp x y ≢ Equal) xs → Pairwise (λ a b. cmp a b ≡ Less) xs → Pairwise (λ a b. cmp a b ≡ Less) (put_by cmp x xs)
order_put cmp x [] total new all = (tt, tt)
order_put cmp x (y ∷ ys) total new all = split (cmp x y) refl (order_put cmp x ys total new.1 all.1)
  where
    split : (o : Ordering) → cmp x y ≡ o → Pairwise (λ a b. cmp a b ≡ Less) (put_by cmp x ys) → Pairwise (λ a b. cmp a b ≡ Less) (put_by cmp x (y ∷ ys))
    split Less is rest = subst (λ o. Pairwise (λ a b. cmp a b ≡ Less) (if is_lt o then x ∷ y ∷ ys else y ∷ put_by cmp x ys)) (sym is) ((is, each_weaker (λ z. cmp y z ≡ Less) (λ z. cmp x z ≡ Less) ys (λ z h. total.trans x y z is h) all.0), all)
    split Equal is rest = absurd (new.0 is)
    split Greater is rest = subst (λ o. Pairwise (λ a b. cmp a b ≡ Less) (if is_lt o then x ∷ y ∷ ys else y ∷ put_by cmp x ys)) (sym is) (each_put (λ z. cmp y z ≡ Less) cmp x ys (total.antisymm y x ∙ ap ordering_reverse is) all.0, rest)

-- ---- the tests of rows

pub any_put : {X : Type 0} (p : X → Bool) (cmp : X → X → Ordering) (x : X) (xs : List X) → IsTrue (list_any p xs) → IsTrue (list_any p (put_by cmp x xs))
any_put p cmp x [] h = cc
any_put p cmp x (y ∷ ys) h = grind (arith, common_steps, any_put p cmp x ys)

pub none_of : {X : Type 0} (p : X → Bool) (xs : List X) → list_any p xs ≡ false → Each (λ x. p x ≡ false) xs
none_of p [] h = tt
none_of p (x ∷ xs) h = (grind arith, none_of p xs (grind arith))

-- ---- rows exchanged

pub each_map : {X : Type 0} (P : X → Type 0) (f : X → X) (xs : List X) → ((x : X) → P x → P (f x)) → Each P xs → Each P (map f xs)
each_map P f [] go all = tt
each_map P f (x ∷ xs) go all = (go x all.0, each_map P f xs go all.1)

-- rows whose key stays
pub differ_map : {X K : Type 0} (key : X → K) (f : X → X) (xs : List X) → ((x : X) → key (f x) ≡ key x) → Differ key xs → Differ key (map f xs)
differ_map key f [] same all = tt
differ_map key f (x ∷ xs) same all = (other xs all.0, differ_map key f xs same all.1)
  where
    other : (ys : List _) → Each (λ y. key x ≢ key y) ys → Each (λ y. key (f x) ≢ key y) (map f ys)
    other [] h = tt
    other (y ∷ ys) h = ((λ e. h.0 (sym (same x) ∙ (e ∙ same y))), other ys h.1)

pub counts_map : {X : Type 0} (number : X → ℕ) (f : X → X) (n : ℕ) (xs : List X) → ((x : X) → number (f x) ≡ number x) → CountsFrom number n xs → CountsFrom number n (map f xs)
counts_map number f n [] same all = tt
counts_map number f n (x ∷ xs) same all = (same x ∙ all.0, counts_map number f (n + 1) xs same all.1)

pub length_map : {X : Type 0} (f : X → X) (xs : List X) → length (map f xs) ≡ length xs
length_map f [] = refl
length_map f (x ∷ xs) = let rest = length_map f xs in omega arith

pub numbered_map : {X : Type 0} (number : X → ℕ) (limit : ℕ) (f : X → X) (xs : List X) → ((x : X) → number (f x) ≡ number x) → IsNumbered number limit xs → IsNumbered number limit (map f xs)
numbered_map number limit f xs same all = (counts_map number f 0 xs same all.0, let long = length_map f xs in omega arith)

pub names_map : {X : Type 0} (number : X → ℕ) (f : X → X) (xs : List X) (n : ℕ) → ((x : X) → number (f x) ≡ number x) → Names number xs n → Names number (map f xs) n
names_map number f [] n same h = h
names_map number f (x ∷ xs) n same h = rw (same x) (grind (arith, common_steps, names_map number f xs n same))

-- ---- a number without a gap, and a key for one row

-- the rows after one have greater numbers
pub past : {X : Type 0} (number : X → ℕ) (n : ℕ) (xs : List X) → CountsFrom number n xs → Each (λ x. n < number x) xs
past number n [] h = tt
past number n (x ∷ xs) h =
    let first : number x ≡ n + 1 = h.0 in
    (omega arith, each_weaker (λ y. n + 1 < number y) (λ y. n < number y) xs (λ y low. omega arith) (past number (n + 1) xs h.1))

-- the row with this number gets a key that no row has
pub differ_set : {X K : Type 0} (number : X → ℕ) (key : X → K) (f : X → X) (n : ℕ) (new : K) (m : ℕ) (xs : List X)
    → ((x : X) → (number x == n) ≡ true → key (f x) ≡ new) → ((x : X) → (number x == n) ≡ false → key (f x) ≡ key x)
    → CountsFrom number m xs → Each (λ x. key x ≢ new) xs → Differ key xs → Differ key (map f xs)
differ_set number key f n new m [] at_n elsewhere counts none all = tt
differ_set number key f n new m (x ∷ xs) at_n elsewhere counts none all =
    (others xs (past number (m + 1) xs counts.1) none.1 all.0, differ_set number key f n new (m + 1) xs at_n elsewhere counts.1 none.1 all.1)
  where
    not_both : (y : _) → m + 1 < number y → (number x == n) ≡ true → (number y == n) ≡ true → ⊥
    not_both y later is is_too = let first : number x ≡ m + 1 = counts.0 in clash (number x) (number y) first later is is_too
      where
        clash : (a b : ℕ) → a ≡ m + 1 → m + 1 < b → (a == n) ≡ true → (b == n) ≡ true → ⊥
        clash a b e low h k = let one : a ≡ n = grind (arith, nat_tests) in let two : b ≡ n = grind (arith, nat_tests) in omega arith

    here : (y : _) → m + 1 < number y → key y ≢ new → key x ≢ key y
        → (a b : Bool) → (number x == n) ≡ a → (number y == n) ≡ b → key (f x) ≢ key (f y)
    here y later fresh apart true true is is_too e = absurd (not_both y later is is_too)
    here y later fresh apart true false is is_too e = fresh (sym (elsewhere y is_too) ∙ (sym e ∙ at_n x is))
    here y later fresh apart false true is is_too e = none.0 (sym (elsewhere x is) ∙ (e ∙ at_n y is_too))
    here y later fresh apart false false is is_too e = apart (sym (elsewhere x is) ∙ (e ∙ elsewhere y is_too))

    others : (ys : List _) → Each (λ y. m + 1 < number y) ys → Each (λ y. key y ≢ new) ys → Each (λ y. key x ≢ key y) ys → Each (λ y. key (f x) ≢ key y) (map f ys)
    others [] later fresh apart = tt
    others (y ∷ ys) later fresh apart = (here y later.0 fresh.0 apart.0 (number x == n) (number y == n) refl refl, others ys later.1 fresh.1 apart.1)

-- ---- a key that no row has

pub pair_total : IsTotalOrder pair_cmp
pair_total = then_total (on_total (λ (p : ℕ × ℕ). p.0) nat_cmp_total) (on_total (λ (p : ℕ × ℕ). p.1) nat_cmp_total)

apart : (a b c d : ℕ) → (c == a && d == b) ≡ false → pair_cmp (a, b) (c, d) ≢ Equal
apart a b c d h = grind (arith, nat_tests)

pub rise_put : {X : Type 0} (key : X → ℕ × ℕ) (x : X) (xs : List X) → list_any (λ y. (key y).0 == (key x).0 && (key y).1 == (key x).1) xs ≡ false → Rise key xs → Rise key (put_by (by_pair key) x xs)
rise_put key x xs none all = order_put (by_pair key) x xs (on_total key pair_total)
    (each_weaker _ (λ y. pair_cmp (key x) (key y) ≢ Equal) xs (λ y h. apart (key x).0 (key x).1 (key y).0 (key y).1 h) (none_of _ xs none)) all

pub text_apart : (a b : List ℕ) → bytes_eq a b ≡ false → a ≢ b
text_apart a b h e = let yes : bytes_eq a b ≡ true = (bytes_eq-Decides a b).1 e in cc

pub differ_put : {X : Type 0} (key : X → List ℕ) (cmp : X → X → Ordering) (x : X) (xs : List X) → list_any (λ y. bytes_eq (key y) (key x)) xs ≡ false → Differ key xs → Differ key (put_by cmp x xs)
differ_put key cmp x xs none all = pairs_put (λ a b. key a ≢ key b) cmp x xs
    (each_weaker _ (λ y. (key x ≢ key y) × (key y ≢ key x)) xs (λ y h. ((λ e. text_apart (key y) (key x) h (sym e)), text_apart (key y) (key x) h)) (none_of _ xs none)) all

-- ---- names and the rows that they find

pub none_any : {X : Type 0} (p : X → Bool) (xs : List X) → Each (λ x. p x ≡ false) xs → list_any p xs ≡ false
none_any p [] all = refl
none_any p (x ∷ xs) all = let here : p x ≡ false = all.0 in let rest = none_any p xs all.1 in grind arith

-- a property of each row holds of the row that is found
pub found_then : {X : Type 0} (p : X → Bool) (P : X → Type 0) (Q : Type 0) (xs : List X) → ((x : X) → p x ≡ true → P x → Q) → list_any p xs ≡ true → Each P xs → Q
found_then p P Q [] go h all = absurd (absurd_false h)
  where
    absurd_false : false ≡ true → ⊥
    absurd_false e = cc
found_then p P Q (x ∷ xs) go h all = split (p x) refl (found_then p P Q xs go)
  where
    split : (b : Bool) → p x ≡ b → (list_any p xs ≡ true → Each P xs → Q) → Q
    split true is rest = go x is all.0
    split false is rest = rest (sym (ap (λ b. b || list_any p xs) is) ∙ h) all.1

-- a number that is there isn't above the number of rows
pub names_within : {X : Type 0} (number : X → ℕ) (n m : ℕ) (xs : List X) → CountsFrom number n xs → Names number xs m → m ≤ n + length xs
names_within number n m [] counts h = absurd (never h)
  where
    never : false ≡ true → ⊥
    never e = cc
names_within number n m (x ∷ xs) counts h = split (number x == m) refl (names_within number (n + 1) m xs counts.1)
  where
    split : (b : Bool) → (number x == m) ≡ b → (Names number xs m → m ≤ n + 1 + length xs) → m ≤ n + length (x ∷ xs)
    split true is rest = let same : number x ≡ m = grind (arith, nat_tests) in let first : number x ≡ n + 1 = counts.0 in omega arith
    split false is rest = let later : Names number xs m = sym (ap (λ b. b || list_any (λ x. number x == m) xs) is) ∙ h in let low = rest later in omega arith

pub pair_apart : (o p : ℕ) (s t : List ℕ) → (p == o && bytes_eq t s) ≡ false → (o ≡ p → s ≡ t → ⊥)
pair_apart o p s t h e f =
    let first : (p == o) ≡ true = grind (arith, nat_tests) in
    let second : bytes_eq t s ≡ true = (bytes_eq-Decides t s).1 (sym f) in grind arith

pub ends_of : (P : ℕ → Type 0) (a b : ℕ) → P a → P b → P (min a b) × P (max a b)
ends_of P a b x y = split (nat_le a b) refl
  where
    split : (t : Bool) → nat_le a b ≡ t → P (min a b) × P (max a b)
    split true is = let low : min a b ≡ a = grind (arith, nat_tests) in let high : max a b ≡ b = grind (arith, nat_tests) in (subst P (sym low) x, subst P (sym high) y)
    split false is = let low : min a b ≡ b = grind (arith, nat_tests) in let high : max a b ≡ a = grind (arith, nat_tests) in (subst P (sym low) y, subst P (sym high) x)

pub low_high : (a b : ℕ) → (a == b) ≡ false → min a b < max a b
low_high a b h = let apart_numbers : a ≢ b = grind (arith, nat_tests) in omega arith
