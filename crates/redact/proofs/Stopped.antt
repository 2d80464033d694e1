-- A path is refused exactly if a gate on it refuses. One step below a path that isn't refused, it is refused exactly
-- if a gate there refuses.
use Rattle.std.proofs.Common.{◌≡◌, Bool, true, false, not, List, [], ◌∷◌, ◌++◌, map, refl, sym, ◌∙◌, ap, arith, if◌then◌else◌, ◌&&◌, ◌||◌}
use Rattle.std.{proofs.lemmas.Bool.{false≢true, true≢false, and_right}, specs.List.{AllByRecursion, filter_map, cons_option, flat_map, list_any}}
use Rattle.{std.specs.{Option.option_or, Prelude.{Option, Some, None, is_some, filter}, Str.bytes_eq}, iodef_tree.specs.Text.{Tokens, is_root, same_path}}
use Rattle.{iodef_tree.specs.Text.{is_prefix, prefixes}, policy.{proofs.Steps.{first_of-append, any_same}, specs.{Gates.refusal_of_gate, Laws.refuses_on}}}
use Rattle.policy.specs.{Verdict.{first_of, refusals_at, refusal_at}, declared.{case.Case.Case, gate.Gate.Gate, standing.Standing.Standing}}
use Rattle.redact.{proofs.{Ends.prefix-step, Filtered.{each-from, none-any}}, specs.{Matters.is_refused, Sifted.{step_tokens, stops}, declared.steps.Step.Step}}

some_or : {A : Type 0} (a b : Option A) → is_some (option_or a b) ≡ (is_some a || is_some b)
some_or None b = refl
some_or (Some x) b = refl

-- there is a first element exactly if there is an element
first-flat_map : {X A : Type 0} (f : X → List A) (xs : List X) → is_some (first_of (flat_map f xs)) ≡ list_any (λ x. is_some (first_of (f x))) xs
first-flat_map f [] = refl
first-flat_map f (x ∷ xs) =
    ap is_some (first_of-append (f x) (flat_map f xs)) ∙ some_or (first_of (f x)) (first_of (flat_map f xs))
    ∙ ap (λ b. is_some (first_of (f x)) || b) (first-flat_map f xs)

first-cons : {A : Type 0} (o : Option A) (xs : List A) → is_some (first_of (cons_option o xs)) ≡ (is_some o || is_some (first_of xs))
first-cons None xs = refl
first-cons (Some a) xs = refl

first-filter_map : {X A : Type 0} (h : X → Option A) (T : X → Bool) (xs : List X) →
    is_some (first_of (filter_map h (filter T xs))) ≡ list_any (λ x. T x && is_some (h x)) xs
first-filter_map h T [] = refl
first-filter_map {X} {A} h T (x ∷ xs) = step (T x) (first-filter_map h T xs)
  where
    step : (b : Bool) → is_some (first_of (filter_map h (filter T xs))) ≡ list_any (λ (y : X). T y && is_some (h y)) xs →
        is_some (first_of (filter_map h (if b then x ∷ filter T xs else filter T xs))) ≡ ((b && is_some (h x)) || list_any (λ (y : X). T y && is_some (h y)) xs)
    step true rest = first-cons (h x) (filter_map h (filter T xs)) ∙ ap (λ b. is_some (h x) || b) rest
    step false rest = rest

any-map : {X Y : Type 0} (f : Y → Bool) (h : X → Y) (xs : List X) → list_any f (map h xs) ≡ list_any (λ x. f (h x)) xs
any-map f h [] = refl
any-map f h (x ∷ xs) = ap (λ b. f (h x) || b) (any-map f h xs)

any-left : {X : Type 0} (b : Bool) (f : X → Bool) (xs : List X) → list_any (λ x. b && f x) xs ≡ (b && list_any f xs)
any-left true f xs = refl
any-left false f [] = refl
any-left false f (x ∷ xs) = any-left false f xs

any-right : {X : Type 0} (f : X → Bool) (b : Bool) (xs : List X) → list_any (λ x. f x && b) xs ≡ (list_any f xs && b)
any-right f b [] = refl
any-right f b (x ∷ xs) = ap (λ r. (f x && b) || r) (any-right f b xs) ∙ spread (f x) (list_any f xs) b
  where
    spread : (a r b : Bool) → ((a && b) || (r && b)) ≡ ((a || r) && b)
    spread a r b = grind arith

any-or : {X : Type 0} (f g : X → Bool) (xs : List X) → list_any (λ x. f x || g x) xs ≡ (list_any f xs || list_any g xs)
any-or f g [] = refl
any-or f g (x ∷ xs) = ap (λ r. (f x || g x) || r) (any-or f g xs) ∙ mix (f x) (g x) (list_any f xs) (list_any g xs)
  where
    mix : (a b c d : Bool) → ((a || b) || (c || d)) ≡ ((a || c) || (b || d))
    mix a b c d = grind arith

any-never : {X : Type 0} (xs : List X) → list_any (λ x. false) xs ≡ false
any-never [] = refl
any-never (x ∷ xs) = any-never xs

-- a test of some path and some gate is a test of some gate and some path
any-swap : {X Y : Type 0} (A : Y → X → Bool) (b : Y → Bool) (qs : List X) (gs : List Y) →
    list_any (λ q. list_any (λ g. A g q && b g) gs) qs ≡ list_any (λ g. list_any (A g) qs && b g) gs
any-swap A b qs [] = any-never qs
any-swap A b qs (g ∷ gs) =
    any-or (λ q. A g q && b g) (λ q. list_any (λ h. A h q && b h) gs) qs
    ∙ ap (λ r. r || list_any (λ q. list_any (λ h. A h q && b h) gs) qs) (any-right (A g) (b g) qs)
    ∙ ap (λ r. (list_any (A g) qs && b g) || r) (any-swap A b qs gs)

any-prefix : (r p : Tokens) → list_any (same_path r) (prefixes p) ≡ is_prefix r p
any-prefix [] [] = refl
any-prefix (x ∷ r) [] = refl
any-prefix [] (y ∷ p) = refl
any-prefix (x ∷ r) (y ∷ p) =
    any-map (same_path (x ∷ r)) (λ q. y ∷ q) (prefixes p) ∙ any-left (bytes_eq x y) (same_path r) (prefixes p)
    ∙ ap (λ b. bytes_eq x y && b) (any-prefix r p)

-- a path is refused exactly if some gate on it refuses
pub refused-any : (c : Case) (s : Standing) (p : Tokens) → is_some (refusal_at c s p) ≡ list_any (refuses_on s p) c.gates
refused-any c s p =
    first-flat_map (refusals_at c s) (prefixes p)
    ∙ any_same _ (λ q. list_any (λ g. same_path g.path q && is_some (refusal_of_gate s g)) c.gates) (λ q. first-filter_map (refusal_of_gate s) (λ g. same_path g.path q) c.gates) (prefixes p)
    ∙ any-swap (λ g q. same_path g.path q) (λ g. is_some (refusal_of_gate s g)) (prefixes p) c.gates
    ∙ any_same _ (refuses_on s p) (λ g. ap (λ b. b && is_some (refusal_of_gate s g)) (any-prefix g.path p)) c.gates

-- ---- below a path that isn't refused

root-nil : (p : Tokens) → is_root p ≡ true → p ≡ []
root-nil [] h = refl
root-nil (x ∷ p) h = absurd (false≢true h)

root-prefix : (q : Tokens) → is_prefix q [] ≡ is_root q
root-prefix [] = refl
root-prefix (x ∷ q) = refl

no-root : (q p : Tokens) → is_prefix q p ≡ false → is_root q ≡ false
no-root [] p h = absurd (true≢false h)
no-root (x ∷ q) p h = refl

any-where : {X : Type 0} (f g : X → Bool) (xs : List X) → AllByRecursion (λ x. f x ≡ g x) xs → list_any f xs ≡ list_any g xs
any-where f g [] h = refl
any-where f g (x ∷ xs) h = ap (λ b. b || list_any f xs) h.0 ∙ ap (λ b. g x || b) (any-where f g xs h.1)

module _ (c : Case) (r : Standing) (p : Tokens) (s : Step) where
  abbrev w : Tokens
  w = p ++ step_tokens s

  one-stops : (g : Gate) → refuses_on r p g ≡ false → stops r p s g ≡ refuses_on r w g
  one-stops g h = by_passage (is_some (refusal_of_gate r g)) h
    where
      q : Tokens
      q = g.path

      last : Bool
      last = same_path q (p ++ s.name ∷ []) || same_path q w

      by_passage : (b : Bool) → (is_prefix q p && b) ≡ false → ((is_root q || last) && b) ≡ (is_prefix q w && b)
      by_passage false k = and_right (is_root q || last) false refl ∙ sym (and_right (is_prefix q w) false refl)
      by_passage true k =
          let none : is_prefix q p ≡ false = alone (is_prefix q p) k in
          ap (λ b. b && true) (ap (λ b. b || last) (no-root q p none) ∙ sym (prefix-step q p s ∙ ap (λ b. b || last) none))
        where
          alone : (b : Bool) → (b && true) ≡ false → b ≡ false
          alone true z = z
          alone false z = refl

  all-stops : is_refused c r p ≡ false → r.source ≡ false → list_any (stops r p s) c.gates ≡ list_any (refuses_on r w) c.gates
  all-stops h foreign = by_root (is_root p) refl (sym (ap (λ b. not (is_root p) && (not b && is_some (refusal_at c r p))) foreign) ∙ h)
    where
      by_root : (t : Bool) → is_root p ≡ t → (not t && is_some (refusal_at c r p)) ≡ false → list_any (stops r p s) c.gates ≡ list_any (refuses_on r w) c.gates
      by_root true i k =
          any_same (stops r p s) (refuses_on r w) (λ g. ap (λ b. b && is_some (refusal_of_gate r g))
          (ap (λ b. b || (same_path g.path (p ++ s.name ∷ []) || same_path g.path w)) (sym (ap (is_prefix g.path) (root-nil p i) ∙ root-prefix g.path)) ∙ sym (prefix-step g.path p s))) c.gates
      by_root false i k =
          any-where (stops r p s) (refuses_on r w) c.gates
          (each-from (λ g. refuses_on r p g ≡ false) (λ g. stops r p s g ≡ refuses_on r w g) one-stops c.gates
          (none-any (refuses_on r p) c.gates (sym (refused-any c r p) ∙ k)))

  -- Below a path that isn't refused, the gates at the next step, or at its array, decide whether one refuses there.
  pub stopped-is : is_refused c r p ≡ false → (not r.source && list_any (stops r p s) c.gates) ≡ (not r.source && is_some (refusal_at c r w))
  stopped-is h = by_source r.source refl
    where
      by_source : (b : Bool) → r.source ≡ b → (not b && list_any (stops r p s) c.gates) ≡ (not b && is_some (refusal_at c r w))
      by_source true e = refl
      by_source false e = all-stops h e ∙ sym (refused-any c r w)
