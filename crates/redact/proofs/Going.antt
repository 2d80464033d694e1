-- The steps of the pass, one behind another.
use Rattle.std.proofs.Common.{◌≡◌, ℕ, suc, ◌+◌, Bool, true, false, ◌||◌, List, [], ◌∷◌, ◌++◌, refl, ◌∙◌, ap, map, length, append_assoc, append-nil}
use Rattle.std.proofs.{Common.{length-append, arith, if◌then◌else◌, Option, Some, None, is_some, option_map, IfSome}, lemmas.List.map-append}
use Rattle.{std.{proofs.lemmas.List.Folds.list_any-append, specs.List.{AllByRecursion, cons_option, list_any}}, iodef_tree.proofs.Siblings.all-append}
use Rattle.{iodef_tree.specs.Text.Tokens, policy.specs.declared.rule.Rule.Rule, redact.{proofs.{Listing.any-with, Searching.any_map}, specs.Withheld.Withheld}}
use Rattle.redact.specs.{Withheld.{same_withheld, is_among, with_rule, at_rule, at_place}, declared.pass.State.State, inner.Left.{tells, Goes, Leaves}}
use Rattle.redact.specs.inner.Tokens.{path_of}

-- lists of pairs are the same test if each pair is in both or in neither
alike : (xs ys : List Withheld) → ((x : Withheld) → is_among xs x ≡ is_among ys x) → is_among xs ≡ is_among ys
alike xs ys h = λ i x. h x i

-- one more step, which lists T and counts m
pub goes-step : (q : Tokens) (a b d : State) (X T Z : List Withheld) (M m k : ℕ) → Goes q a b X (T ++ Z) M (m + k) → Goes q b d T [] m 0 → Goes q a d X Z M k
goes-step q a b d X T Z M m k g step = record {
  path = step.path ∙ g.path;
  place = step.place ∙ g.place;
  withheld = alike (tells q d ++ Z) (tells q b ++ (T ++ Z)) (λ x.
      let told = simp (append-nil, list_any-append) at (ap (λ (f : Withheld → Bool). f x) step.withheld) in
      simp list_any-append (grind (arith, told)))
      ∙ g.withheld;
  classes = λ l. let e = g.classes l in let f = step.classes (omega (arith, e, l)) in omega (arith, e, f);
}

-- ---- what a class lists when its members are done

framed : (W I A G T e : Bool) → (W || I) ≡ (A || T) → ((W || (I || e)) || G) ≡ ((A || G) || (e || T))
framed W I A G T e h = grind arith

dropped : (A G e : Bool) → (A || (G || e)) ≡ ((A || G) || (e || false))
dropped A G e = grind arith

-- a class of which nothing is kept lists its rule at the place of its parent
told-gone : (q : Tokens) (a d : State) (rule : Rule) → d.withheld.items ≡ a.withheld.items →
    ((test : Rule → Bool) → list_any test d.rules_met.items ≡ (list_any test a.rules_met.items || test rule)) →
    is_among (tells q d ++ []) ≡ is_among (tells q a ++ at_rule q rule ∷ [])
told-gone q a d rule noted added = alike (tells q d ++ []) (tells q a ++ at_rule q rule ∷ []) (λ x.
    simp (append-nil, list_any-append, noted, any_map, added)
    (dropped (is_among a.withheld.items x) (list_any (λ l. same_withheld x (at_rule q l)) a.rules_met.items) (same_withheld x (at_rule q rule))))

-- b is a before the members, with none of them gone; k is the state behind them; d is a with what they listed
module _ (q r : Tokens) (a b k d : State) (T : List Withheld)
    (begins : b.withheld.items ≡ a.withheld.items) (bare : b.rules_met.items ≡ [])
    (below : is_among (tells r k ++ []) ≡ is_among (tells r b ++ T)) where
  -- a visible class
  pub told-seen : d.withheld.items ≡ tells r k → d.rules_met.items ≡ a.rules_met.items → is_among (tells q d ++ []) ≡ is_among (tells q a ++ T)
  told-seen noted kept = alike (tells q d ++ []) (tells q a ++ T) (λ x.
      let told = simp (append-nil, list_any-append, begins, bare) at (ap (λ (f : Withheld → Bool). f x) below) in
      simp (append-nil, list_any-append, noted, kept) (grind (arith, told)))

  -- a frame, which lists its own rule too
  told-frame : (rule : Rule) (gs : List Rule) → ((test : Rule → Bool) → list_any test gs ≡ (list_any test k.rules_met.items || test rule)) →
      d.withheld.items ≡ k.withheld.items ++ at_place r gs → d.rules_met.items ≡ a.rules_met.items →
      is_among (tells q d ++ []) ≡ is_among (tells q a ++ at_rule r rule ∷ T)
  told-frame rule gs added noted kept = alike (tells q d ++ []) (tells q a ++ at_rule r rule ∷ T) (λ x.
      let told = simp (append-nil, list_any-append, begins, bare, any_map) at (ap (λ (f : Withheld → Bool). f x) below) in
      simp (append-nil, list_any-append, noted, kept, any_map, added) (framed (is_among k.withheld.items x) (list_any (λ l. same_withheld x (at_rule r l)) k.rules_met.items)
      (is_among a.withheld.items x) (list_any (λ l. same_withheld x (at_rule q l)) a.rules_met.items) (is_among T x) (same_withheld x (at_rule r rule)) told))

  -- a class that isn't visible
  pub told-hidden : (rule : Rule) (empty : Bool) → path_of k.place.items ≡ r → Leaves k d a.rules_met.items rule empty → (empty ≡ true → k.withheld.items ≡ a.withheld.items) →
      is_among (tells q d ++ []) ≡ is_among (tells q a ++ (if empty then at_rule q rule ∷ [] else at_rule r rule ∷ T))
  told-hidden rule true here leaves quiet = told-gone q a d rule (leaves.withheld ∙ quiet refl) (λ test. ap (list_any test) leaves.gone ∙ any-with test a.rules_met.items rule)
  told-hidden rule false here leaves quiet =
      told-frame rule (with_rule k.rules_met.items rule) (λ test. any-with test k.rules_met.items rule)
      (leaves.withheld ∙ ap (λ p. k.withheld.items ++ at_place p (with_rule k.rules_met.items rule)) here) leaves.gone

-- ---- a loop that pushes what is kept, if something is

-- a list with one more, made of what is kept
abbrev pub pushed : {X Z : Type 0} → (Z → X) → List X → Option Z → List X
pushed g ks None = ks
pushed g ks (Some z) = ks ++ g z ∷ []

pub pushed-left : {X Y Z : Type 0} (g : Z → X) (f : X → Y) (ks : List X) (o : Option Z) (bs : List Y) → map f (pushed g ks o) ++ bs ≡ map f ks ++ cons_option (option_map (λ z. f (g z)) o) bs
pushed-left g f ks None bs = refl
pushed-left g f ks (Some z) bs = rw (map-append, append_assoc)

pub pushed-all : {X Z : Type 0} (P : X → Type 0) (g : Z → X) (ks : List X) (o : Option Z) → AllByRecursion P ks → IfSome o (λ z. P (g z)) → AllByRecursion P (pushed g ks o)
pushed-all P g ks None all h = all
pushed-all P g ks (Some z) all h = all-append P ks (g z ∷ []) all (h, tt)

pub length-pushed : {X Y Z : Type 0} (g : Z → X) (f : Z → Y) (ks : List X) (o : Option Z) → length (pushed g ks o) ≡ (if is_some (option_map f o) then suc (length ks) else length ks)
length-pushed g f ks None = refl
length-pushed g f ks (Some z) = omega (arith, length-append ks (g z ∷ []))

pub pushed-none : {X Z : Type 0} (g : Z → X) (ks : List X) (o : Option Z) → length (pushed g ks o) ≡ 0 → (o ≡ None) × (length ks ≡ 0)
pushed-none g ks None h = (refl, h)
pushed-none g ks (Some z) h = absurd (omega (arith, length-append ks (g z ∷ []), h))
