-- Lists whose elements pass the same tests: a property of each, the first that is found, and those that are kept.
use Rattle.std.proofs.Common.{◌≡◌, Bool, true, false, List, [], ◌∷◌, ◌++◌, refl, sym, ◌∙◌, ap, map, if◌then◌else◌, ◌&&◌, ◌||◌, reverse, cond}
use Rattle.std.{proofs.lemmas.Bool.{or_parts, cond-false}, specs.{List.{AllByRecursion, flat_map, list_any, list_all}, Prelude.{Some, filter, find, unwrap_or}}}
use mathlib.Core.List.{reverse_aux}

-- ---- a property of each

pub each : {X : Type 0} (P : X → Type 0) → ((x : X) → P x) → (xs : List X) → AllByRecursion P xs
each P h [] = tt
each P h (x ∷ xs) = (h x, each P h xs)

pub each-from : {X : Type 0} (P Q : X → Type 0) → ((x : X) → P x → Q x) → (xs : List X) → AllByRecursion P xs → AllByRecursion Q xs
each-from P Q h [] e = tt
each-from P Q h (x ∷ xs) e = (h x e.0, each-from P Q h xs e.1)

pub all-map : {X Y : Type 0} (P : Y → Type 0) (f : X → Y) (xs : List X) → AllByRecursion (λ x. P (f x)) xs → AllByRecursion P (map f xs)
all-map P f [] h = tt
all-map P f (x ∷ xs) h = (h.0, all-map P f xs h.1)

pub all-onto : {X : Type 0} (P : X → Type 0) (xs ys : List X) → AllByRecursion P xs → AllByRecursion P ys → AllByRecursion P (reverse_aux xs ys)
all-onto P [] ys h k = k
all-onto P (x ∷ xs) ys h k = all-onto P xs (x ∷ ys) h.1 (h.0, k)

pub all-back : {X : Type 0} (P : X → Type 0) (xs : List X) → AllByRecursion P xs → AllByRecursion P (reverse xs)
all-back P xs h = all-onto P xs [] h tt

pub found-has : {X : Type 0} (P : X → Type 0) (test : X → Bool) (d : X) (xs : List X) → P d → AllByRecursion P xs → P (unwrap_or (find test xs) d)
found-has P test d [] h k = h
found-has P test d (x ∷ xs) h k = by_test (test x) (found-has P test d xs h k.1)
  where
    by_test : (b : Bool) → P (unwrap_or (find test xs) d) → P (unwrap_or (cond b (Some x) (find test xs)) d)
    by_test true ih = k.0
    by_test false ih = ih

-- ---- the first that is found, if the tests agree

pub find-each : {X : Type 0} (f g : X → Bool) (xs : List X) → AllByRecursion (λ x. f x ≡ g x) xs → find f xs ≡ find g xs
find-each f g [] h = refl
find-each f g (x ∷ xs) h = ap (λ b. cond b (Some x) (find f xs)) h.0 ∙ ap (λ o. cond (g x) (Some x) o) (find-each f g xs h.1)

pub all-each : {X : Type 0} (f g : X → Bool) (xs : List X) → AllByRecursion (λ x. f x ≡ g x) xs → list_all f xs ≡ list_all g xs
all-each f g [] h = refl
all-each f g (x ∷ xs) h = ap (λ b. b && list_all f xs) h.0 ∙ ap (λ b. g x && b) (all-each f g xs h.1)

pub flat-each : {X Y : Type 0} (f g : X → List Y) (xs : List X) → AllByRecursion (λ x. f x ≡ g x) xs → flat_map f xs ≡ flat_map g xs
flat-each f g [] h = refl
flat-each f g (x ∷ xs) h = ap (λ ys. ys ++ flat_map f xs) h.0 ∙ ap (λ ys. g x ++ ys) (flat-each f g xs h.1)

pub any-each : {X : Type 0} (f g : X → Bool) (xs : List X) → ((y : X) → f y ≡ g y) → list_any f xs ≡ list_any g xs
any-each f g [] k = refl
any-each f g (y ∷ ys) k = ap (λ b. b || list_any f ys) (k y) ∙ ap (λ b. g y || b) (any-each f g ys k)

pub any-none : {X : Type 0} (f : X → Bool) (xs : List X) → AllByRecursion (λ x. f x ≡ false) xs → list_any f xs ≡ false
any-none f [] h = refl
any-none f (x ∷ xs) h = ap (λ b. b || list_any f xs) h.0 ∙ any-none f xs h.1

pub none-any : {X : Type 0} (f : X → Bool) (xs : List X) → list_any f xs ≡ false → AllByRecursion (λ x. f x ≡ false) xs
none-any f [] h = tt
none-any f (x ∷ xs) h = let parts = or_parts (f x) (list_any f xs) h in (parts.0, none-any f xs parts.1)

pub any-kept : {X : Type 0} (f g : X → Bool) (xs : List X) → ((x : X) → g x ≡ false → f x ≡ false) → list_any f xs ≡ list_any f (filter g xs)
any-kept f g [] h = refl
any-kept f g (x ∷ xs) h = by_test (g x) refl (any-kept f g xs h)
  where
    by_test : (b : Bool) → g x ≡ b → list_any f xs ≡ list_any f (filter g xs) → (f x || list_any f xs) ≡ list_any f (if b then x ∷ filter g xs else filter g xs)
    by_test true k ih = ap (λ b. f x || b) ih
    by_test false k ih = ap (λ b. b || list_any f xs) (h x k) ∙ ih

pub any-both : {X : Type 0} (f g : X → Bool) (xs : List X) → list_any f (filter g xs) ≡ list_any (λ x. f x && g x) xs
any-both f g [] = refl
any-both f g (x ∷ xs) = by_test (g x) (any-both f g xs)
  where
    by_first : (a : Bool) → (a && false) ≡ false
    by_first true = refl
    by_first false = refl

    by_same : (a : Bool) → (a && true) ≡ a
    by_same true = refl
    by_same false = refl

    by_test : (b : Bool) → list_any f (filter g xs) ≡ list_any (λ x. f x && g x) xs →
        list_any f (if b then x ∷ filter g xs else filter g xs) ≡ ((f x && b) || list_any (λ x. f x && g x) xs)
    by_test true ih = ap (λ r. f x || r) ih ∙ sym (ap (λ a. a || list_any (λ x. f x && g x) xs) (by_same (f x)))
    by_test false ih = ih ∙ sym (ap (λ a. a || list_any (λ x. f x && g x) xs) (by_first (f x)))

-- ---- those that are kept

pub filter-passing : {X : Type 0} (f g : X → Bool) (xs : List X) → AllByRecursion (λ x. g x ≡ false → f x ≡ false) xs → filter f xs ≡ filter f (filter g xs)
filter-passing f g [] h = refl
filter-passing f g (x ∷ xs) h = by_test (g x) refl (filter-passing f g xs h.1)
  where
    by_test : (b : Bool) → g x ≡ b → filter f xs ≡ filter f (filter g xs) → (if f x then x ∷ filter f xs else filter f xs) ≡ filter f (if b then x ∷ filter g xs else filter g xs)
    by_test true k ih = ap (λ ys. if f x then x ∷ ys else ys) ih
    by_test false k ih = cond-false (f x) _ _ (h.0 k) ∙ ih

-- the same, if an element that fails the second test fails the first
pub filter-within : {X : Type 0} (f g : X → Bool) (xs : List X) → ((x : X) → g x ≡ false → f x ≡ false) → filter f xs ≡ filter f (filter g xs)
filter-within f g xs h = filter-passing f g xs (each (λ x. g x ≡ false → f x ≡ false) h xs)

-- those that pass two tests
pub filter-both : {X : Type 0} (f g : X → Bool) (xs : List X) → filter f (filter g xs) ≡ filter (λ x. g x && f x) xs
filter-both f g [] = refl
filter-both f g (x ∷ xs) = by_test (g x) (filter-both f g xs)
  where
    by_test : (b : Bool) → filter f (filter g xs) ≡ filter (λ x. g x && f x) xs →
        filter f (if b then x ∷ filter g xs else filter g xs) ≡ (if b && f x then x ∷ filter (λ x. g x && f x) xs else filter (λ x. g x && f x) xs)
    by_test true ih = ap (λ ys. if f x then x ∷ ys else ys) ih
    by_test false ih = ih

pub filter-agree : {X : Type 0} (f f' g : X → Bool) (xs : List X) → ((x : X) → g x ≡ true → f x ≡ f' x) → filter f (filter g xs) ≡ filter f' (filter g xs)
filter-agree f f' g [] h = refl
filter-agree f f' g (x ∷ xs) h = by_test (g x) refl (filter-agree f f' g xs h)
  where
    by_test : (b : Bool) → g x ≡ b → filter f (filter g xs) ≡ filter f' (filter g xs) → filter f (if b then x ∷ filter g xs else filter g xs) ≡ filter f' (if b then x ∷ filter g xs else filter g xs)
    by_test true k ih = ap (λ ys. if f x then x ∷ ys else ys) ih ∙ ap (λ b. if b then x ∷ filter f' (filter g xs) else filter f' (filter g xs)) (h x k)
    by_test false k ih = ih

pub filter-map : {X Y : Type 0} (f : Y → Bool) (g : X → Y) (xs : List X) → filter f (map g xs) ≡ map g (filter (λ x. f (g x)) xs)
filter-map f g [] = refl
filter-map f g (x ∷ xs) = by_test (f (g x)) (filter-map f g xs)
  where
    by_test : (b : Bool) → filter f (map g xs) ≡ map g (filter (λ x. f (g x)) xs) →
        (if b then g x ∷ filter f (map g xs) else filter f (map g xs)) ≡ map g (if b then x ∷ filter (λ x. f (g x)) xs else filter (λ x. f (g x)) xs)
    by_test true ih = ap (λ ys. g x ∷ ys) ih
    by_test false ih = ih
