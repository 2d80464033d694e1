-- Which gates refuse on a path, and whose rule is the refusal.
use Rattle.std.proofs.Common.{◌≡◌, ℕ, ◌≤◌, ◌<◌, Bool, true, false, not, List, [], ◌∷◌, ◌++◌, length, map, refl, sym, ◌∙◌, ap, arith, if◌then◌else◌, ◌&&◌, ◌||◌}
use Rattle.std.proofs.{Common.{◌⊎◌, inl, inr}, lemmas.{Bool.{false≢true, true≢false, and_parts, and_from}, List.{append-nil, Sums.AllPass-from_list_all}}}
use Rattle.std.specs.{List.{filter_map, cons_option, flat_map, list_any, list_all}, Option.option_or, Prelude.{Option, Some, None, is_some, filter, find, All}}
use Rattle.{std.specs.{Prelude.slice_index_or, Str.bytes_eq}, iodef_tree.proofs.Order.{bytes_eq-refl, bytes_eq-true, same_path-true, same_path-refl}}
use Rattle.{iodef_tree.specs.Text.{Bytes, Tokens, same_path, is_prefix, prefixes}, policy.proofs.Steps.{first_of-append, any_same}}
use Rattle.policy.specs.{Gates.refusal_of_gate, Laws.{refuses_on, IsNearestRefusal}, Verdict.{first_of, refusals_at, refusal_at}, declared.case.Case.Case}
use Rattle.policy.specs.declared.{gate.Gate.Gate, rule.Rule.Rule, standing.Standing.Standing}

some_or : {A : Type 0} (a b : Option A) → is_some (option_or a b) ≡ (is_some a || is_some b)
some_or None b = refl
some_or (Some x) b = refl

-- there is a first element exactly if there is an element
first-flat_map : {X A : Type 0} (f : X → List A) (xs : List X) → is_some (first_of (flat_map f xs)) ≡ list_any (λ x. is_some (first_of (f x))) xs
first-flat_map f [] = refl
first-flat_map f (x ∷ xs) =
    ap is_some (first_of-append (f x) (flat_map f xs)) ∙ some_or (first_of (f x)) (first_of (flat_map f xs))
    ∙ ap (λ b. is_some (first_of (f x)) || b) (first-flat_map f xs)

first-cons : {A : Type 0} (o : Option A) (xs : List A) → is_some (first_of (cons_option o xs)) ≡ (is_some o || is_some (first_of xs))
first-cons None xs = refl
first-cons (Some a) xs = refl

first-filter_map : {X A : Type 0} (h : X → Option A) (T : X → Bool) (xs : List X) →
    is_some (first_of (filter_map h (filter T xs))) ≡ list_any (λ x. T x && is_some (h x)) xs
first-filter_map h T [] = refl
first-filter_map {X} {A} h T (x ∷ xs) = step (T x) (first-filter_map h T xs)
  where
    step : (b : Bool) → is_some (first_of (filter_map h (filter T xs))) ≡ list_any (λ (y : X). T y && is_some (h y)) xs →
        is_some (first_of (filter_map h (if b then x ∷ filter T xs else filter T xs))) ≡ ((b && is_some (h x)) || list_any (λ (y : X). T y && is_some (h y)) xs)
    step true rest = first-cons (h x) (filter_map h (filter T xs)) ∙ ap (λ b. is_some (h x) || b) rest
    step false rest = rest

any-map : {X Y : Type 0} (f : Y → Bool) (h : X → Y) (xs : List X) → list_any f (map h xs) ≡ list_any (λ x. f (h x)) xs
any-map f h [] = refl
any-map f h (x ∷ xs) = ap (λ b. f (h x) || b) (any-map f h xs)

any-left : {X : Type 0} (b : Bool) (f : X → Bool) (xs : List X) → list_any (λ x. b && f x) xs ≡ (b && list_any f xs)
any-left true f xs = refl
any-left false f [] = refl
any-left false f (x ∷ xs) = any-left false f xs

any-right : {X : Type 0} (f : X → Bool) (b : Bool) (xs : List X) → list_any (λ x. f x && b) xs ≡ (list_any f xs && b)
any-right f b [] = refl
any-right f b (x ∷ xs) = ap (λ r. (f x && b) || r) (any-right f b xs) ∙ spread (f x) (list_any f xs) b
  where
    spread : (a r b : Bool) → ((a && b) || (r && b)) ≡ ((a || r) && b)
    spread a r b = grind arith

any-or : {X : Type 0} (f g : X → Bool) (xs : List X) → list_any (λ x. f x || g x) xs ≡ (list_any f xs || list_any g xs)
any-or f g [] = refl
any-or f g (x ∷ xs) = ap (λ r. (f x || g x) || r) (any-or f g xs) ∙ mix (f x) (g x) (list_any f xs) (list_any g xs)
  where
    mix : (a b c d : Bool) → ((a || b) || (c || d)) ≡ ((a || c) || (b || d))
    mix a b c d = grind arith

any-never : {X : Type 0} (xs : List X) → list_any (λ x. false) xs ≡ false
any-never [] = refl
any-never (x ∷ xs) = any-never xs

-- a test of some path and some gate is a test of some gate and some path
any-swap : {X Y : Type 0} (A : Y → X → Bool) (b : Y → Bool) (qs : List X) (gs : List Y) →
    list_any (λ q. list_any (λ g. A g q && b g) gs) qs ≡ list_any (λ g. list_any (A g) qs && b g) gs
any-swap A b qs [] = any-never qs
any-swap A b qs (g ∷ gs) =
    any-or (λ q. A g q && b g) (λ q. list_any (λ h. A h q && b h) gs) qs
    ∙ ap (λ r. r || list_any (λ q. list_any (λ h. A h q && b h) gs) qs) (any-right (A g) (b g) qs)
    ∙ ap (λ r. (list_any (A g) qs && b g) || r) (any-swap A b qs gs)

any-prefix : (r p : Tokens) → list_any (same_path r) (prefixes p) ≡ is_prefix r p
any-prefix [] [] = refl
any-prefix (x ∷ r) [] = refl
any-prefix [] (y ∷ p) = refl
any-prefix (x ∷ r) (y ∷ p) =
    any-map (same_path (x ∷ r)) (λ q. y ∷ q) (prefixes p) ∙ any-left (bytes_eq x y) (same_path r) (prefixes p)
    ∙ ap (λ b. bytes_eq x y && b) (any-prefix r p)

-- a path is refused exactly if some gate on it refuses
pub refused-any : (c : Case) (s : Standing) (p : Tokens) → is_some (refusal_at c s p) ≡ list_any (refuses_on s p) c.gates
refused-any c s p =
    first-flat_map (refusals_at c s) (prefixes p)
    ∙ any_same _ (λ q. list_any (λ g. same_path g.path q && is_some (refusal_of_gate s g)) c.gates) (λ q. first-filter_map (refusal_of_gate s) (λ g. same_path g.path q) c.gates) (prefixes p)
    ∙ any-swap (λ g q. same_path g.path q) (λ g. is_some (refusal_of_gate s g)) (prefixes p) c.gates
    ∙ any_same _ (refuses_on s p) (λ g. ap (λ b. b && is_some (refusal_of_gate s g)) (any-prefix g.path p)) c.gates

all-not : {X : Type 0} (f : X → Bool) (xs : List X) → list_any f xs ≡ false → list_all (λ x. not (f x)) xs ≡ true
all-not f [] h = refl
all-not {X} f (x ∷ xs) h = split (f x) (list_any f xs) h (all-not f xs)
  where
    split : (a b : Bool) → (a || b) ≡ false → (b ≡ false → list_all (λ (y : X). not (f y)) xs ≡ true) → (not a && list_all (λ (y : X). not (f y)) xs) ≡ true
    split true b h k = absurd (true≢false h)
    split false b h k = k h

-- if no element passes a test, the one at each index fails it
none-at : {X : Type 0} (f : X → Bool) (xs : List X) → list_any f xs ≡ false → All (λ x. f x ≡ false) xs
none-at f xs h k d below = turn (f (slice_index_or xs k d)) (AllPass-from_list_all (λ x. not (f x)) xs (all-not f xs h) k d below)
  where
    turn : (b : Bool) → not b ≡ true → b ≡ false
    turn true h = absurd (false≢true h)
    turn false h = refl

none-is : {A : Type 0} (o : Option A) → is_some o ≡ false → o ≡ None
none-is None h = refl
none-is (Some a) h = absurd (true≢false h)

-- if nothing is refused on the path, no gate on it refuses
pub passes-all : (c : Case) (s : Standing) (p : Tokens) → is_some (refusal_at c s p) ≡ false →
    All (λ g. is_prefix g.path p ≡ true → refusal_of_gate s g ≡ None) c.gates
passes-all c s p h k d below on_path =
    let g = slice_index_or c.gates k d in
    none-is (refusal_of_gate s g)
    (ap (λ b. b && is_some (refusal_of_gate s g)) (sym on_path) ∙ none-at (refuses_on s p) c.gates (sym (refused-any c s p) ∙ h) k d below)

-- the first refusal over the prefixes comes from one prefix, and from no shorter one
pub record IsShortest {A : Type 0} (f : Tokens → List A) (p : Tokens) (r : A) (q : Tokens) : Type 0 where
  pub prefix : is_prefix q p ≡ true
  pub here : first_of (f q) ≡ Some r
  pub shorter : (z : Tokens) → is_prefix z p ≡ true → length z < length q → first_of (f z) ≡ None

flat_map-map : {X Y A : Type 0} (f : Y → List A) (h : X → Y) (xs : List X) → flat_map f (map h xs) ≡ flat_map (λ x. f (h x)) xs
flat_map-map f h [] = refl
flat_map-map f h (x ∷ xs) = ap (λ r. f (h x) ++ r) (flat_map-map f h xs)

longer : {A : Type 0} (f : Tokens → List A) (x : Bytes) (p : Tokens) (r : A) (q : Tokens) → first_of (f []) ≡ None →
    IsShortest (λ z. f (x ∷ z)) p r q → IsShortest f (x ∷ p) r (x ∷ q)
longer f x p r q none k = record {
  prefix = and_from (bytes_eq x x) (is_prefix q p) (bytes_eq-refl x) k.prefix;
  here = k.here;
  shorter = shorter;
}
  where
    shorter : (z : Tokens) → is_prefix z (x ∷ p) ≡ true → length z < length (x ∷ q) → first_of (f z) ≡ None
    shorter [] on less = none
    shorter (y ∷ z) on less =
        let parts = and_parts (bytes_eq y x) (is_prefix z p) on in
        ap (λ b. first_of (f (b ∷ z))) (bytes_eq-true y x parts.0) ∙ k.shorter z parts.1 (omega (arith, less))

shortest : {A : Type 0} (f : Tokens → List A) (p : Tokens) (r : A) → first_of (flat_map f (prefixes p)) ≡ Some r →
    (q : Tokens) × IsShortest f p r q
shortest f [] r h =
    ([], record { prefix = refl; here = ap first_of (sym (append-nil (f []))) ∙ h; shorter = λ z k less. absurd (omega (arith, less)) })
shortest {A} f (x ∷ p) r h =
    by_root (first_of (f [])) refl (shortest (λ z. f (x ∷ z)) p r)
    (ap (λ o. option_or (first_of (f [])) (first_of o)) (sym (flat_map-map f (λ z. x ∷ z) (prefixes p))) ∙ sym (first_of-append (f []) (flat_map f (map (λ z. x ∷ z) (prefixes p)))) ∙ h)
  where
    by_root : (o : Option A) → first_of (f []) ≡ o →
        (first_of (flat_map (λ (z : Tokens). f (x ∷ z)) (prefixes p)) ≡ Some r → (q : Tokens) × IsShortest (λ (z : Tokens). f (x ∷ z)) p r q) →
        option_or (first_of (f [])) (first_of (flat_map (λ (z : Tokens). f (x ∷ z)) (prefixes p))) ≡ Some r → (q : Tokens) × IsShortest f (x ∷ p) r q
    by_root None is deeper k =
        let found = deeper (ap (λ o. option_or o (first_of (flat_map (λ (z : Tokens). f (x ∷ z)) (prefixes p)))) (sym is) ∙ k) in
        (x ∷ found.0, longer f x p r found.0 is found.1)
    by_root (Some a) is deeper k = (
      [],
      record {
        prefix = refl;
        here = is ∙ ap (λ o. option_or o (first_of (flat_map (λ (z : Tokens). f (x ∷ z)) (prefixes p)))) (sym is) ∙ k;
        shorter = λ z on less. absurd (omega (arith, less));
      },
    )

-- the first element that passes a test and gives a value
pub record IsFirst {X A : Type 0} (h : X → Option A) (T : X → Bool) (xs : List X) (r : A) (x : X) : Type 0 where
  pub found : find (λ y. T y && is_some (h y)) xs ≡ Some x
  pub fits : T x ≡ true
  pub gives : h x ≡ Some r

first-found : {X A : Type 0} (h : X → Option A) (T : X → Bool) (xs : List X) (r : A) → first_of (filter_map h (filter T xs)) ≡ Some r →
    (x : X) × IsFirst h T xs r x
first-found h T [] r none = cc
first-found {X} {A} h T (x ∷ xs) r is = step (T x) (h x) refl refl (first-found h T xs r) is
  where
    behind : (T x && is_some (h x)) ≡ false → ((y : X) × IsFirst h T xs r y) → (y : X) × IsFirst h T (x ∷ xs) r y
    behind skips (y, k) =
        (y, record { found = ap (λ b. if b then Some x else find (λ (z : X). T z && is_some (h z)) xs) skips ∙ k.found; fits = k.fits; gives = k.gives })

    step : (b : Bool) (o : Option A) → T x ≡ b → h x ≡ o → (first_of (filter_map h (filter T xs)) ≡ Some r → (y : X) × IsFirst h T xs r y) →
        first_of (filter_map h (if b then x ∷ filter T xs else filter T xs)) ≡ Some r → (y : X) × IsFirst h T (x ∷ xs) r y
    step false o unfit gives rest k = behind (ap (λ b. b && is_some (h x)) unfit) (rest k)
    step true None fits gives rest k =
        behind (ap (λ b. b && is_some (h x)) fits ∙ ap is_some gives) (rest (ap (λ o. first_of (cons_option o (filter_map h (filter T xs)))) (sym gives) ∙ k))
    step true (Some a) fits gives rest k = (
      x,
      record {
        found = ap (λ b. if b && is_some (h x) then Some x else find (λ (z : X). T z && is_some (h z)) xs) fits
            ∙ ap (λ o. if is_some o then Some x else find (λ (z : X). T z && is_some (h z)) xs) gives;
        fits = fits;
        gives = gives ∙ ap (λ o. first_of (cons_option o (filter_map h (filter T xs)))) (sym gives) ∙ k;
      },
    )

-- if there is no refusal at the path of a gate, the gate doesn't refuse
refused-there : (c : Case) (s : Standing) (k : ℕ) (d : Gate) → k < length c.gates →
    first_of (refusals_at c s (slice_index_or c.gates k d).path) ≡ None → is_some (refusal_of_gate s (slice_index_or c.gates k d)) ≡ false
refused-there c s k d below none =
    let h = slice_index_or c.gates k d in
    let T : Gate → Bool = λ g. same_path g.path h.path in
    ap (λ b. b && is_some (refusal_of_gate s h)) (sym (same_path-refl h.path))
    ∙ none-at (λ g. T g && is_some (refusal_of_gate s g)) c.gates (sym (first-filter_map (refusal_of_gate s) T c.gates) ∙ ap is_some none) k d below

-- a number is at most another, or the other is less
at_most_or_less : (m n : ℕ) → (m ≤ n) ⊎ (n < m)
at_most_or_less m n = grind arith

pub refusal-nearest : (c : Case) (s : Standing) (p : Tokens) (r : Rule) → refusal_at c s p ≡ Some r →
    (g : Gate) × IsNearestRefusal c s p g × (refusal_of_gate s g ≡ Some r)
refusal-nearest c s p r is =
    let at = shortest (refusals_at c s) p r is in
    let q = at.0 in
    let one = first-found (refusal_of_gate s) (λ g. same_path g.path q) c.gates r at.1.here in
    let g = one.0 in
    let stands : g.path ≡ q = same_path-true g.path q one.1.fits in (
      g,
      record {
        on_path = ap (λ z. is_prefix z p) stands ∙ at.1.prefix;
        shortest = λ k d below refuses.
            let h = slice_index_or c.gates k d in
            let parts = and_parts (is_prefix h.path p) (is_some (refusal_of_gate s h)) refuses in
            let size : length g.path ≡ length q = ap length stands in
            no_shorter (length g.path) (length h.path) (at_most_or_less (length g.path) (length h.path))
            (λ less. false≢true (sym (refused-there c s k d below (at.1.shorter h.path parts.0 (omega (arith, less, size)))) ∙ parts.1));
        first = ap (λ z. find (λ (h : Gate). same_path h.path z && is_some (refusal_of_gate s h)) c.gates) stands ∙ one.1.found;
      },
      one.1.gives,
    )
  where
    no_shorter : (m n : ℕ) → (m ≤ n) ⊎ (n < m) → (n < m → ⊥) → m ≤ n
    no_shorter m n (inl k) never = k
    no_shorter m n (inr k) never = absurd (never k)
