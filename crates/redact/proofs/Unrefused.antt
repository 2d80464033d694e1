-- A reader whom no gate of the case refuses, and a reader who sees everything.
use Rattle.std.proofs.{Common.{◌≡◌, Bool, true, false, not, ◌&&◌, ◌||◌, List, [], ◌∷◌, ◌++◌, refl, ◌∙◌, ap, arith, if◌then◌else◌}, lemmas.Bool.true≢false}
use Rattle.std.{proofs.lemmas.Bool.{and_parts, or_parts, not-true}, specs.{List.{list_any, flat_map, filter_map, cons_option}, Prelude.{Option, Some, None}}}
use Rattle.{std.specs.Prelude.{filter, is_some, is_none}, iodef_tree.specs.{Paths.LocatedLine, Text.{Tokens, same_path, prefixes}}}
use Rattle.{marking.specs.{Label.is_at_most, Marks.label_at, declared.label.Handling.{Handling, TheVariants.Red}}, policy.specs.Clearance.clearance_of}
use Rattle.policy.specs.{Gates.refusal_of_gate, Verdict.{first_of, refusals_at, refusal_at, handling_for, is_cleared_for, is_covered, is_visible}}
use Rattle.{policy.specs.declared.{case.Case.Case, gate.Gate.Gate, rule.Rule.Rule, standing.Standing.Standing}, redact.specs.inner.Seeking.some_refuses}
use Rattle.redact.specs.inner.Seeking.{sees_all}

passes-none : (s : Standing) (f : Gate → Bool) (gs : List Gate) → list_any (λ g. is_some (refusal_of_gate s g)) gs ≡ false → filter_map (refusal_of_gate s) (filter f gs) ≡ []
passes-none s f [] h = refl
passes-none s f (g ∷ gs) h =
    let parts = or_parts (is_some (refusal_of_gate s g)) (list_any (λ g. is_some (refusal_of_gate s g)) gs) h in
    by_value (f g) (refusal_of_gate s g) parts.0 refl (passes-none s f gs parts.1)
  where
    by_value : (b : Bool) (o : Option Rule) → is_some o ≡ false → refusal_of_gate s g ≡ o → filter_map (refusal_of_gate s) (filter f gs) ≡ [] →
        filter_map (refusal_of_gate s) (if b then g ∷ filter f gs else filter f gs) ≡ []
    by_value false o none is rest = rest
    by_value true None none is rest = ap (λ o. cons_option o (filter_map (refusal_of_gate s) (filter f gs))) is ∙ rest
    by_value true (Some r) none is rest = absurd (true≢false none)

flat-none : {X Y : Type 0} (f : X → List Y) → ((x : X) → f x ≡ []) → (xs : List X) → flat_map f xs ≡ []
flat-none f none [] = refl
flat-none f none (x ∷ xs) = ap (λ ys. ys ++ flat_map f xs) (none x) ∙ flat-none f none xs

-- if no gate of the case refuses, none refuses on any path
pub unrefused : (c : Case) (s : Standing) (p : Tokens) → some_refuses c s ≡ false → refusal_at c s p ≡ None
unrefused c s p h = ap first_of (flat-none (refusals_at c s) (λ q. passes-none s (λ g. same_path g.path q) c.gates h) (prefixes p))

below-red : (a k : Handling) → is_at_most Red k ≡ true → is_at_most a k ≡ true
below-red a k h = grind arith

pub seen : (a r k v : Bool) → r ≡ true → k ≡ true → (a || (r && (k || v))) ≡ true
seen a r k v hr hk = grind arith

seen-source : (a b : Bool) → a ≡ true → (a || b) ≡ true
seen-source a b h = grind arith

pub all-seen : (c : Case) (s : Standing) → sees_all c s ≡ true → (es : List LocatedLine) (p : Tokens) → is_visible es c s p ≡ true
all-seen c s h es p = by_source s.source refl h
  where
    by_source : (b : Bool) → s.source ≡ b → (b || (not (some_refuses c s) && is_at_most Red (clearance_of s).0)) ≡ true → is_visible es c s p ≡ true
    by_source true is k = seen-source s.source _ is
    by_source false is k =
        let parts = and_parts (not (some_refuses c s)) (is_at_most Red (clearance_of s).0) k in
        seen s.source (is_none (refusal_at c s p)) (is_cleared_for s (label_at es p)) (is_covered es c s p)
        (ap is_none (unrefused c s p (not-true (some_refuses c s) parts.0)))
        (below-red (handling_for s (label_at es p)) (clearance_of s).0 parts.1)
