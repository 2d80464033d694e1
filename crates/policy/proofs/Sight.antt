-- Readers who see more: those of the source, with more permissions, with a raised clearance.
use Rattle.std.proofs.{Common.{◌≡◌, ℕ, Bool, true, false, not, List, refl, sym, ◌∙◌, ap, subst, arith, if◌then◌else◌, ◌&&◌, ◌||◌, ◌==◌}, lemmas.Bool.and_parts}
use Rattle.std.{proofs.lemmas.{Bool.{and_from, false≢true}, List.Folds.{Any-from_list_any, list_any-from_Any}}, specs.List.{filter_map, flat_map, list_any}}
use Rattle.{std.specs.Prelude.{Option, Some, None, unwrap_or, is_some, is_none, filter, All, Contains}, iodef_tree.specs.{Paths.LocatedLine, Text.Tokens}}
use Rattle.{iodef_tree.specs.Text.{same_path, is_prefix, prefixes}, marking.specs.{Label.{handling_of, is_at_most}, Marks.label_at}}
use Rattle.policy.{proofs.{Clearances.{at_most-trans, clearance-raised}, Refusals.{refused-any, passes-all}, Steps.any_same}, specs.Clearance.clearance_of}
use Rattle.policy.specs.{Gates.{refused_unless, group_passage, refusal_of_gate}, Laws.{HasMorePermissions, refuses_on, IsRaised}, Numbers.is_among}
use Rattle.policy.specs.{Permissions.{includes, is_before, reaches, covers}, Verdict.{first_of, refusal_at, handling_for, is_cleared_for, is_covered}}
use Rattle.policy.specs.{Verdict.{is_visible, showing_rule, hiding_rule, hidden_by, verdict_of}, declared.{case.Case.Case, gate.Gate.Gate}}
use Rattle.policy.specs.declared.{permission.Grantee.{Grantee, TheVariants.{Person, Org, Community, Group}}, rule.Rule.{Rule, TheVariants.{Src, X, G0, G1, G2}}}
use Rattle.policy.specs.declared.{rule.Rule.TheVariants.{G4, G4X}, standing.Standing.Standing, verdict.Verdict.TheVariants.{Shown, Hidden}}

pub source-sees : (es : List LocatedLine) (c : Case) (s : Standing) (p : Tokens) → s.source ≡ true → verdict_of es c s p ≡ Shown Src
source-sees es c s p is =
    ap (λ b. if b || (is_none (refusal_at c s p) && (is_cleared_for s (label_at es p) || is_covered es c s p)) then Shown (if b then Src else if is_cleared_for s (label_at es p) then (clearance_of s).1 else X) else Hidden (hiding_rule es c s p)) is

-- an element that passes a test is in each list that contains the first
any-within : {X : Type 0} (f : X → Bool) (xs ys : List X) → All (λ x. Contains ys x) xs → list_any f xs ≡ true → list_any f ys ≡ true
any-within f xs ys within h =
    let found = Any-from_list_any f xs h in
    let x = found.1 in
    let there : Contains ys x = subst (λ z. Contains ys z) found.3 (within found.0 x found.2) in
    list_any-from_Any f ys (there.0, x, there.1, there.2, found.4)

-- a class stays visible if its gates stay passed and it is cleared or covered as before
pub stays : (a b r r' k k' v v' : Bool) → a ≡ b → (r ≡ true → r' ≡ true) → (k ≡ true → k' ≡ true) → (v ≡ true → v' ≡ true) →
    (a || (r && (k || v))) ≡ true → (b || (r' && (k' || v'))) ≡ true
stays a b r r' k k' v v' same gates cleared covered h = grind arith

pub permission-hides : (es : List LocatedLine) (c d : Case) (s : Standing) (p : Tokens) → HasMorePermissions c d →
    is_visible es c s p ≡ true → is_visible es d s p ≡ true
permission-hides es c d s p more h =
    stays s.source s.source (is_none (refusal_at c s p)) (is_none (refusal_at d s p)) (is_cleared_for s (label_at es p)) (is_cleared_for s (label_at es p)) (is_covered es c s p) (is_covered es d s p)
    refl
    (λ r. ap (λ gs. is_none (first_of (flat_map (λ q. filter_map (refusal_of_gate s) (filter (λ g. same_path g.path q) gs)) (prefixes p)))) (sym more.gates) ∙ r)
    (λ k. k)
    (any-within (covers es s p) c.permissions d.permissions more.permissions) h

pub permission-opens : (es : List LocatedLine) (c d : Case) (s : Standing) (p : Tokens) (r : Rule) → HasMorePermissions c d →
    s.source ≡ false → refusal_at c s p ≡ Some r → verdict_of es d s p ≡ Hidden r
permission-opens es c d s p r more other is =
    let same : refusal_at d s p ≡ Some r =
    ap (λ gs. first_of (flat_map (λ q. filter_map (refusal_of_gate s) (filter (λ g. same_path g.path q) gs)) (prefixes p))) (sym more.gates) ∙ is in
    let k = is_cleared_for s (label_at es p) || is_covered es d s p in
    let h = handling_for s (label_at es p) in
    ap (λ b. if b || (is_none (refusal_at d s p) && k) then Shown (showing_rule s (label_at es p)) else Hidden (hiding_rule es d s p)) other
    ∙ ap (λ o. if is_none o && k then Shown (showing_rule s (label_at es p)) else Hidden (unwrap_or o (hidden_by h))) same

-- a reader who passes a gate passes it when raised
unless-raised : (r : Rule) (a b : Bool) → (a ≡ true → b ≡ true) → is_some (refused_unless r b) ≡ true → is_some (refused_unless r a) ≡ true
unless-raised r false b up h = refl
unless-raised r true true up h = h
unless-raised r true false up h = absurd (false≢true (up refl))

choose : (b : Bool) (x y x' y' : Option Rule) → (is_some x' ≡ true → is_some x ≡ true) → (is_some y' ≡ true → is_some y ≡ true) →
    is_some (if b then x' else y') ≡ true → is_some (if b then x else y) ≡ true
choose true x y x' y' f g h = f h
choose false x y x' y' f g h = g h

group-same : (s t : Standing) → IsRaised s t → (o : Option ℕ) → group_passage t o ≡ group_passage s o
group-same s t up None = refl
group-same s t up (Some n) =
    ap (λ a. if not (is_among n a) then Some G4 else if not (is_among n t.active_groups) then Some G4X else None) (sym up.groups)
    ∙ ap (λ a. if not (is_among n s.groups) then Some G4 else if not (is_among n a) then Some G4X else None) (sym up.active_groups)

passage-raised : (s t : Standing) → IsRaised s t → (g : Gate) → is_some (refusal_of_gate t g) ≡ true → is_some (refusal_of_gate s g) ≡ true
passage-raised s t up g =
    choose (g.level == 1) (refused_unless G1 s.community) _ (refused_unless G1 t.community) _
    (unless-raised G1 s.community t.community up.community)
    (choose (g.level == 2) (refused_unless G2 (s.community || s.connected)) _ (refused_unless G2 (t.community || t.connected)) _
    (unless-raised G2 (s.community || s.connected) (t.community || t.connected)
    (either s.community s.connected t.community t.connected up.community (λ h. sym up.connected ∙ h)))
    (choose (g.level == 3) None _ None _ (λ h. h)
    (choose (g.level == 4) (group_passage s g.group) _ (group_passage t g.group) _ (λ h. ap is_some (sym (group-same s t up g.group)) ∙ h)
    (choose (g.level == 5) None (refused_unless G0 s.source) None (refused_unless G0 t.source) (λ h. h)
    (unless-raised G0 s.source t.source (λ h. sym up.source ∙ h))))))
  where
    either : (a b a' b' : Bool) → (a ≡ true → a' ≡ true) → (b ≡ true → b' ≡ true) → (a || b) ≡ true → (a' || b') ≡ true
    either a b a' b' f g h = grind arith

pub any-weaker : {X : Type 0} (f g : X → Bool) → ((x : X) → f x ≡ true → g x ≡ true) → (xs : List X) → list_any f xs ≡ true → list_any g xs ≡ true
any-weaker f g weaker xs h =
    let found = Any-from_list_any f xs h in
    list_any-from_Any g xs (found.0, found.1, found.2, found.3, weaker found.1 found.4)

refusal-raised : (c : Case) (s t : Standing) (p : Tokens) → IsRaised s t → is_none (refusal_at c s p) ≡ true → is_none (refusal_at c t p) ≡ true
refusal-raised c s t p up none =
    turn (refusal_at c s p) (refusal_at c t p) (λ h. refused-any c s p ∙ any-weaker (refuses_on t p) (refuses_on s p)
    (λ g k. let parts = and_parts (is_prefix g.path p) (is_some (refusal_of_gate t g)) k in
    and_from (is_prefix g.path p) (is_some (refusal_of_gate s g)) parts.0 (passage-raised s t up g parts.1))
    c.gates (sym (refused-any c t p) ∙ h)) none
  where
    turn : (a b : Option Rule) → (is_some b ≡ true → is_some a ≡ true) → is_none a ≡ true → is_none b ≡ true
    turn a None f h = refl
    turn None (Some r) f h = absurd (false≢true (f refl))
    turn (Some q) (Some r) f h = h

includes-raised : (s t : Standing) → IsRaised s t → (x : Grantee) → includes s x ≡ includes t x
includes-raised s t up (Person n) = ap (λ k. k == n) up.who
includes-raised s t up (Org n) = ap (λ k. k == n) up.org
includes-raised s t up (Community n) = ap (is_among n) up.communities
includes-raised s t up (Group n) = ap (λ a. is_among n a && is_among n s.active_groups) up.groups ∙ ap (λ a. is_among n t.groups && is_among n a) up.active_groups

pub visible-raised : (es : List LocatedLine) (c : Case) (s t : Standing) (p : Tokens) → IsRaised s t →
    is_visible es c s p ≡ true → is_visible es c t p ≡ true
visible-raised es c s t p up h =
    let l = label_at es p in
    stays s.source t.source (is_none (refusal_at c s p)) (is_none (refusal_at c t p)) (is_cleared_for s l) (is_cleared_for t l) (is_covered es c s p) (is_covered es c t p)
    up.source
    (refusal-raised c s t p up)
    (λ k. at_most-trans (handling_for t l) (clearance_of s).0 (clearance_of t).0 (ap (λ a. is_at_most (handling_of l a) (clearance_of s).0) (sym up.arrangement) ∙ k) (clearance-raised s t up))
    (λ v. any_same (covers es t p) (covers es s p)
    (λ x. ap (λ b. (b && is_before t.now x.until) && reaches es x.path p) (sym (includes-raised s t up x.grantee))
    ∙ ap (λ m. (includes s x.grantee && is_before m x.until) && reaches es x.path p) (sym up.now)) c.permissions ∙ v)
    h

pub visible-passes : (es : List LocatedLine) (c : Case) (s : Standing) (p : Tokens) → s.source ≡ false → is_visible es c s p ≡ true →
    All (λ g. is_prefix g.path p ≡ true → refusal_of_gate s g ≡ None) c.gates
visible-passes es c s p other h =
    passes-all c s p (unrefused (refusal_at c s p) (is_cleared_for s (label_at es p) || is_covered es c s p)
    (ap (λ b. b || (is_none (refusal_at c s p) && (is_cleared_for s (label_at es p) || is_covered es c s p))) (sym other) ∙ h))
  where
    unrefused : (o : Option Rule) (k : Bool) → (false || (is_none o && k)) ≡ true → is_some o ≡ false
    unrefused None k h = refl
    unrefused (Some r) k h = absurd (false≢true h)
