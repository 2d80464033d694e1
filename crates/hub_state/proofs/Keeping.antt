-- Rows put and taken: what is found, filtered and counted afterwards.
use Rattle.std.proofs.Common.{◌≡◌, ℕ, ◌+◌, ◌≤◌, ◌<◌, ◌==◌, ◌||◌, not, Bool, true, false, if◌then◌else◌, List, [], ◌∷◌, filter, Option, Some, None, refl, sym}
use Rattle.std.{proofs.{Common.{ap, ◌∙◌, subst, arith, map}, lemmas.Bool.{both_ways, false_from_ne_true, false≢true, Decides.nat_tests}}, specs.List.list_any}
use Rattle.std.specs.{List.list_all, Option.option_map_or, Ordering.is_lt, Prelude.{count_by, find, is_some}, declared.cmp.Ordering.Ordering}
use Rattle.{redact.proofs.Counts.count_by-cons, circle.{proofs.Keeping.each_weaker, specs.{Ordered.put_by, Sound.{CountsFrom, Each}}}}

-- a test of what is made of the elements
pub any_map : {X Y : Type 0} (test : Y → Bool) (f : X → Y) (xs : List X) → list_any test (map f xs) ≡ list_any (λ x. test (f x)) xs
any_map test f [] = refl
any_map test f (x ∷ xs) = ap (λ b. test (f x) || b) (any_map test f xs)

pub some_is : {X : Type 0} (o : Option X) (x : X) → o ≡ Some x → is_some o ≡ true
some_is o x h = ap is_some h

-- ---- tests

pub never : {A : Type 0} (b : Bool) → b ≡ true → b ≡ false → A
never b h k = absurd (both_ways b k h)

pub turned : (m n : ℕ) → (m == n) ≡ false → (n == m) ≡ false
turned m n h = grind (arith, nat_tests)

-- a number can't equal two different ones
pub not_both : (m n k : ℕ) → (n == k) ≡ false → (m == n) ≡ true → (m == k) ≡ false
not_both m n k h e = grind (arith, nat_tests)

-- numbers that count on from one are above it
pub numbers_above : {X : Type 0} (number : X → ℕ) (n : ℕ) (xs : List X) → CountsFrom number n xs → Each (λ x. n < number x) xs
numbers_above number n [] h = tt
numbers_above number n (x ∷ xs) h =
    let first : number x ≡ n + 1 = h.0 in
    (omega arith, each_weaker (λ y. n + 1 < number y) (λ y. n < number y) xs (λ y e. omega arith) (numbers_above number (n + 1) xs h.1))

-- if no element passes, removing those that pass removes none
pub none_taken : {X : Type 0} (p : X → Bool) (xs : List X) → list_any p xs ≡ false → filter (λ x. not (p x)) xs ≡ xs
none_taken p [] h = refl
none_taken p (x ∷ xs) h = split (p x) h (none_taken p xs)
  where
    split : (b : Bool) → (b || list_any p xs) ≡ false → (list_any p xs ≡ false → filter (λ y. not (p y)) xs ≡ xs) → (if not b then x ∷ filter (λ y. not (p y)) xs else filter (λ y. not (p y)) xs) ≡ x ∷ xs
    split true k rest = cc
    split false k rest = ap (λ ys. x ∷ ys) (rest k)

-- ---- what is found

pub found_is : {X : Type 0} (p : X → Bool) (xs : List X) (x : X) → find p xs ≡ Some x → p x ≡ true
found_is p [] x h = cc
found_is p (y ∷ ys) x h = split (p y) refl (found_is p ys x)
  where
    split : (b : Bool) → p y ≡ b → (find p ys ≡ Some x → p x ≡ true) → p x ≡ true
    split true is rest = let here : Some y ≡ Some x = sym (ap (λ b. if b then Some y else find p ys) is) ∙ h in let same : y ≡ x = cc in sym (ap p same) ∙ is
    split false is rest = rest (sym (ap (λ b. if b then Some y else find p ys) is) ∙ h)

-- what holds of each row holds of the one found
pub found_each : {X : Type 0} (P : X → Type 0) (p : X → Bool) (xs : List X) (x : X) → find p xs ≡ Some x → Each P xs → P x
found_each P p [] x h all = absurd (nothing h)
  where
    nothing : None ≡ Some x → ⊥
    nothing e = cc
found_each P p (y ∷ ys) x h all = split (p y) refl (found_each P p ys x)
  where
    split : (b : Bool) → p y ≡ b → (find p ys ≡ Some x → Each P ys → P x) → P x
    split true is rest = let here : Some y ≡ Some x = sym (ap (λ b. if b then Some y else find p ys) is) ∙ h in let same : y ≡ x = cc in subst P same all.0
    split false is rest = rest (sym (ap (λ b. if b then Some y else find p ys) is) ∙ h) all.1

pub found_any : {X : Type 0} (p : X → Bool) (xs : List X) → is_some (find p xs) ≡ true → list_any p xs ≡ true
found_any p [] h = cc
found_any p (x ∷ xs) h = split (p x) refl (found_any p xs)
  where
    split : (b : Bool) → p x ≡ b → (is_some (find p xs) ≡ true → list_any p xs ≡ true) → list_any p (x ∷ xs) ≡ true
    split true is rest = ap (λ b. b || list_any p xs) is
    split false is rest = ap (λ b. b || list_any p xs) is ∙ rest (sym (ap (λ b. is_some (if b then Some x else find p xs)) is) ∙ h)

-- putting a row that isn't looked for doesn't hide the one that is
pub find_put : {X : Type 0} (p : X → Bool) (cmp : X → X → Ordering) (x : X) (xs : List X) → p x ≡ false → find p (put_by cmp x xs) ≡ find p xs
find_put p cmp x [] h = ap (λ b. if b then Some x else None) h
find_put p cmp x (y ∷ ys) h = elim (is_lt (cmp x y)) as (λ b. find p (if b then x ∷ y ∷ ys else y ∷ put_by cmp x ys) ≡ find p (y ∷ ys)) [
  | true ↦ ap (λ b. if b then Some x else find p (y ∷ ys)) h
  | false ↦ ap (λ o. if p y then Some y else o) (find_put p cmp x ys h)
]

-- a row is found if it is the only one looked for
pub find_new : {X : Type 0} (p : X → Bool) (cmp : X → X → Ordering) (x : X) (xs : List X) → p x ≡ true → Each (λ y. p y ≡ false) xs → find p (put_by cmp x xs) ≡ Some x
find_new p cmp x [] h none = ap (λ b. if b then Some x else None) h
find_new p cmp x (y ∷ ys) h none = elim (is_lt (cmp x y)) as (λ b. find p (if b then x ∷ y ∷ ys else y ∷ put_by cmp x ys) ≡ Some x) [
  | true ↦ ap (λ b. if b then Some x else find p (y ∷ ys)) h
  | false ↦ ap (λ b. if b then Some y else find p (put_by cmp x ys)) none.0 ∙ find_new p cmp x ys h none.1
]

pub find_left : {X : Type 0} (p q : X → Bool) (xs : List X) → ((x : X) → p x ≡ true → q x ≡ true) → find p (filter q xs) ≡ find p xs
find_left p q [] stays = refl
find_left p q (x ∷ xs) stays = split (q x) refl (find_left p q xs stays)
  where
    split : (b : Bool) → q x ≡ b → find p (filter q xs) ≡ find p xs → find p (filter q (x ∷ xs)) ≡ find p (x ∷ xs)
    split true is rest = ap (λ b. find p (if b then x ∷ filter q xs else filter q xs)) is ∙ ap (λ o. if p x then Some x else o) rest
    split false is rest =
        let other : p x ≡ false = false_from_ne_true (p x) (λ h. never (q x) (stays x h) is) in
        ap (λ b. find p (if b then x ∷ filter q xs else filter q xs)) is ∙ (rest ∙ sym (ap (λ b. if b then Some x else find p xs) other))

-- ---- what is left

-- what holds of each row that passes a test
pub each_passed : {X : Type 0} (P Q : X → Type 0) (q : X → Bool) (xs : List X) → ((x : X) → q x ≡ true → P x → Q x) → Each P xs → Each Q (filter q xs)
each_passed P Q q [] go all = tt
each_passed P Q q (x ∷ xs) go all = split (q x) refl (each_passed P Q q xs go all.1)
  where
    split : (b : Bool) → q x ≡ b → Each Q (filter q xs) → Each Q (filter q (x ∷ xs))
    split true is rest = subst (λ b. Each Q (if b then x ∷ filter q xs else filter q xs)) (sym is) (go x is all.0, rest)
    split false is rest = subst (λ b. Each Q (if b then x ∷ filter q xs else filter q xs)) (sym is) rest

pub each_passes : {X : Type 0} (q : X → Bool) (xs : List X) → Each (λ x. q x ≡ true) (filter q xs)
each_passes q [] = tt
each_passes q (x ∷ xs) = split (q x) refl (each_passes q xs)
  where
    split : (b : Bool) → q x ≡ b → Each (λ x. q x ≡ true) (filter q xs) → Each (λ x. q x ≡ true) (filter q (x ∷ xs))
    split true is rest = subst (λ b. Each (λ x. q x ≡ true) (if b then x ∷ filter q xs else filter q xs)) (sym is) (is, rest)
    split false is rest = subst (λ b. Each (λ x. q x ≡ true) (if b then x ∷ filter q xs else filter q xs)) (sym is) rest

pub each_both : {X : Type 0} (P Q : X → Type 0) (xs : List X) → Each P xs → Each Q xs → Each (λ x. P x × Q x) xs
each_both P Q [] h k = tt
each_both P Q (x ∷ xs) h k = ((h.0, k.0), each_both P Q xs h.1 k.1)

pub all_each : {X : Type 0} (p : X → Bool) (xs : List X) → list_all p xs ≡ true → Each (λ x. p x ≡ true) xs
all_each p [] h = tt
all_each p (x ∷ xs) h = (grind arith, all_each p xs (grind arith))

-- a row that the filter drops leaves its result unchanged
pub filter_put : {X : Type 0} (p : X → Bool) (cmp : X → X → Ordering) (x : X) (xs : List X) → p x ≡ false → filter p (put_by cmp x xs) ≡ filter p xs
filter_put p cmp x [] h = ap (λ b. if b then x ∷ [] else []) h
filter_put p cmp x (y ∷ ys) h = elim (is_lt (cmp x y)) as (λ b. filter p (if b then x ∷ y ∷ ys else y ∷ put_by cmp x ys) ≡ filter p (y ∷ ys)) [
  | true ↦ ap (λ b. if b then x ∷ filter p (y ∷ ys) else filter p (y ∷ ys)) h
  | false ↦ ap (λ zs. if p y then y ∷ zs else zs) (filter_put p cmp x ys h)
]

pub filter_left : {X : Type 0} (p q : X → Bool) (xs : List X) → ((x : X) → p x ≡ true → q x ≡ true) → filter p (filter q xs) ≡ filter p xs
filter_left p q [] stays = refl
filter_left p q (x ∷ xs) stays = split (q x) refl (filter_left p q xs stays)
  where
    split : (b : Bool) → q x ≡ b → filter p (filter q xs) ≡ filter p xs → filter p (filter q (x ∷ xs)) ≡ filter p (x ∷ xs)
    split true is rest = ap (λ b. filter p (if b then x ∷ filter q xs else filter q xs)) is ∙ ap (λ zs. if p x then x ∷ zs else zs) rest
    split false is rest =
        let other : p x ≡ false = false_from_ne_true (p x) (λ h. never (q x) (stays x h) is) in
        ap (λ b. filter p (if b then x ∷ filter q xs else filter q xs)) is ∙ (rest ∙ sym (ap (λ b. if b then x ∷ filter p xs else filter p xs) other))

-- a filter of what its contrary keeps
pub filter_none : {X : Type 0} (p q : X → Bool) (xs : List X) → ((x : X) → q x ≡ true → p x ≡ false) → filter p (filter q xs) ≡ []
filter_none p q [] gone = refl
filter_none p q (x ∷ xs) gone = split (q x) refl (filter_none p q xs gone)
  where
    split : (b : Bool) → q x ≡ b → filter p (filter q xs) ≡ [] → filter p (filter q (x ∷ xs)) ≡ []
    split true is rest = ap (λ b. filter p (if b then x ∷ filter q xs else filter q xs)) is ∙ (ap (λ b. if b then x ∷ filter p (filter q xs) else filter p (filter q xs)) (gone x is) ∙ rest)
    split false is rest = ap (λ b. filter p (if b then x ∷ filter q xs else filter q xs)) is ∙ rest

-- ---- how many

one : (b : Bool) → b ≡ true → ◌≡◌ {A = ℕ} (if b then 1 else 0) 1
one true h = refl
one false h = cc

nothing : (b : Bool) → b ≡ false → ◌≡◌ {A = ℕ} (if b then 1 else 0) 0
nothing true h = cc
nothing false h = refl

count_here : {X : Type 0} (p : X → Bool) (x : X) (xs : List X) → p x ≡ true → count_by p (x ∷ xs) ≡ 1 + count_by p xs
count_here p x xs h = count_by-cons p x xs ∙ ap (λ n. n + count_by p xs) (one (p x) h)

count_past : {X : Type 0} (p : X → Bool) (x : X) (xs : List X) → p x ≡ false → count_by p (x ∷ xs) ≡ count_by p xs
count_past p x xs h = let all = count_by-cons p x xs in let none : ◌≡◌ {A = ℕ} (if p x then 1 else 0) 0 = nothing (p x) h in omega arith

later : {X : Type 0} (p : X → Bool) (x y : X) (ys zs : List X) → count_by p zs ≡ count_by p (x ∷ ys) → count_by p (y ∷ zs) ≡ count_by p (x ∷ y ∷ ys)
later p x y ys zs h =
    let a = count_by-cons p y zs in let b = count_by-cons p x (y ∷ ys) in let c = count_by-cons p y ys in let d = count_by-cons p x ys in omega arith

pub count_put : {X : Type 0} (p : X → Bool) (cmp : X → X → Ordering) (x : X) (xs : List X) → count_by p (put_by cmp x xs) ≡ count_by p (x ∷ xs)
count_put p cmp x [] = refl
count_put p cmp x (y ∷ ys) = elim (is_lt (cmp x y)) as (λ b. count_by p (if b then x ∷ y ∷ ys else y ∷ put_by cmp x ys) ≡ count_by p (x ∷ y ∷ ys)) [ true ↦ refl | false ↦ later p x y ys (put_by cmp x ys) (count_put p cmp x ys) ]

-- one more with a row that counts
pub count_more : {X : Type 0} (p : X → Bool) (cmp : X → X → Ordering) (x : X) (xs : List X) → p x ≡ true → count_by p (put_by cmp x xs) ≡ 1 + count_by p xs
count_more p cmp x xs h = count_put p cmp x xs ∙ count_here p x xs h

-- as many with a row that doesn't
pub count_same : {X : Type 0} (p : X → Bool) (cmp : X → X → Ordering) (x : X) (xs : List X) → p x ≡ false → count_by p (put_by cmp x xs) ≡ count_by p xs
count_same p cmp x xs h = count_put p cmp x xs ∙ count_past p x xs h

-- at most one more
pub count_next : {X : Type 0} (p : X → Bool) (cmp : X → X → Ordering) (x : X) (xs : List X) → count_by p (put_by cmp x xs) ≤ 1 + count_by p xs
count_next p cmp x xs = split (p x) refl
  where
    split : (b : Bool) → p x ≡ b → count_by p (put_by cmp x xs) ≤ 1 + count_by p xs
    split true is = let e = count_more p cmp x xs is in omega arith
    split false is = let e = count_same p cmp x xs is in omega arith

pub count_none : {X : Type 0} (p : X → Bool) (xs : List X) → Each (λ x. p x ≡ false) xs → count_by p xs ≡ 0
count_none p [] none = refl
count_none p (x ∷ xs) none = count_past p x xs none.0 ∙ count_none p xs none.1

-- a count of the remaining rows is at most the count of all
pub count_left : {X : Type 0} (p q : X → Bool) (xs : List X) → count_by p (filter q xs) ≤ count_by p xs
count_left p q [] = omega arith
count_left p q (x ∷ xs) = split (q x) refl (count_left p q xs)
  where
    split : (b : Bool) → q x ≡ b → count_by p (filter q xs) ≤ count_by p xs → count_by p (filter q (x ∷ xs)) ≤ count_by p (x ∷ xs)
    split true is rest = subst (λ b. count_by p (if b then x ∷ filter q xs else filter q xs) ≤ count_by p (x ∷ xs)) (sym is) (let a = count_by-cons p x (filter q xs) in let b = count_by-cons p x xs in omega (arith, a, b, rest))
    split false is rest = subst (λ b. count_by p (if b then x ∷ filter q xs else filter q xs) ≤ count_by p (x ∷ xs)) (sym is) (let b = count_by-cons p x xs in omega (arith, b, rest))

-- the count is lower if a row that counts is removed
pub count_fewer : {X : Type 0} (p out : X → Bool) (xs : List X) → list_any out xs ≡ true → ((x : X) → out x ≡ true → p x ≡ true) → 1 + count_by p (filter (λ x. not (out x)) xs) ≤ count_by p xs
count_fewer p out [] some counts = absurd (false≢true some)
count_fewer {X = X} p out (x ∷ xs) some counts = split (out x) refl (count_fewer p out xs)
  where
    split : (b : Bool) → out x ≡ b → (list_any out xs ≡ true → ((y : X) → out y ≡ true → p y ≡ true) → 1 + count_by p (filter (λ y. not (out y)) xs) ≤ count_by p xs) →
        1 + count_by p (filter (λ y. not (out y)) (x ∷ xs)) ≤ count_by p (x ∷ xs)
    split true is rest = subst (λ b. 1 + count_by p (if not b then x ∷ filter (λ y. not (out y)) xs else filter (λ y. not (out y)) xs) ≤ count_by p (x ∷ xs)) (sym is)
        (let here = count_here p x xs (counts x is) in let left = count_left p (λ y. not (out y)) xs in omega (arith, here, left))
    split false is rest = subst (λ b. 1 + count_by p (if not b then x ∷ filter (λ y. not (out y)) xs else filter (λ y. not (out y)) xs) ≤ count_by p (x ∷ xs)) (sym is)
        (let later = rest (sym (ap (λ b. b || list_any out xs) is) ∙ some) counts in let a = count_by-cons p x (filter (λ y. not (out y)) xs) in let b = count_by-cons p x xs in omega (arith, later, a, b))

-- the count is the same if no row that counts is removed
pub count_kept : {X : Type 0} (p q : X → Bool) (xs : List X) → ((x : X) → p x ≡ true → q x ≡ true) → count_by p (filter q xs) ≡ count_by p xs
count_kept p q [] stays = refl
count_kept p q (x ∷ xs) stays = split (q x) refl (count_kept p q xs stays)
  where
    split : (b : Bool) → q x ≡ b → count_by p (filter q xs) ≡ count_by p xs → count_by p (filter q (x ∷ xs)) ≡ count_by p (x ∷ xs)
    split true is rest = ap (λ b. count_by p (if b then x ∷ filter q xs else filter q xs)) is ∙ (count_by-cons p x (filter q xs) ∙ (ap (λ n. (if p x then 1 else 0) + n) rest ∙ sym (count_by-cons p x xs)))
    split false is rest = ap (λ b. count_by p (if b then x ∷ filter q xs else filter q xs)) is ∙ (rest ∙ sym (count_past p x xs (false_from_ne_true (p x) (λ h. never (q x) (stays x h) is))))

pub at_most : (a b limit : ℕ) → a ≤ b → b ≤ limit → a ≤ limit
at_most a b limit h k = omega arith

-- a look-up whose result passes a test has found a row
pub found_passing : {X : Type 0} (test : X → Bool) (o : Option X) → option_map_or test o false ≡ true → (x : X) × (o ≡ Some x) × (test x ≡ true)
found_passing test None h = absurd (never false h refl)
found_passing test (Some x) h = (x, refl, h)
