-- The moment decides whether a permission has ended, and nothing else.
use Rattle.std.proofs.{Common.{◌≡◌, ℕ, Bool, true, List, [], ◌∷◌, refl, sym, ◌∙◌, ap, arith, if◌then◌else◌, ◌&&◌, ◌||◌, ◌==◌}, lemmas.Bool.and_parts}
use Rattle.std.{proofs.lemmas.{Bool.and_from, Int.ints, List.Elements.All-tail, Map.Views.any-filter_same}, specs.List.{filter_map, flat_map, list_any}}
use Rattle.{std.specs.Prelude.{ℤ, ◌≤ℤ◌, Option, Some, None, unwrap_or, is_none, filter, All, slice_index_or}, iodef_tree.specs.{Paths.LocatedLine, Text.Tokens}}
use Rattle.{iodef_tree.specs.Text.{same_path, prefixes}, marking.specs.Marks.label_at, policy.{proofs.Sight.{any-weaker, stays}, specs.Gates.refused_unless}}
use Rattle.policy.specs.{Gates.{group_passage, refusal_of_gate}, Permissions.{includes, is_before, holds_for, reaches, covers}, Verdict.{first_of, refusal_at}}
use Rattle.policy.specs.Verdict.{handling_for, is_cleared_for, is_covered, is_visible, showing_rule, hiding_rule, hidden_by, verdict_of}
use Rattle.policy.specs.declared.{case.Case.Case, gate.Gate.Gate, permission.Grantee.{Grantee, TheVariants.{Person, Org, Community, Group}}}
use Rattle.policy.specs.declared.{permission.Permission.Permission, rule.Rule.TheVariants.{G0, G1, G2}, standing.Standing.Standing, verdict.Verdict.Verdict}
use Rattle.policy.specs.declared.verdict.Verdict.TheVariants.{Shown, Hidden}

-- the same reader at another moment
abbrev at : ℤ → Standing → Standing
at m s = record s { now = m }

-- a verdict by whether the class is covered
abbrev verdict_if : List LocatedLine → Case → Standing → Tokens → Bool → Verdict
verdict_if es c s p v =
    let l = label_at es p in
    if s.source || (is_none (refusal_at c s p) && (is_cleared_for s l || v)) then Shown (showing_rule s l) else Hidden (hiding_rule es c s p)

pub ended-counts : (es : List LocatedLine) (c : Case) (s : Standing) (p : Tokens) →
    verdict_of es c s p ≡ verdict_of es (record c { permissions = filter (λ x. is_before s.now x.until) c.permissions }) s p
ended-counts es c s p =
    ap (verdict_if es c s p)
    (sym (any-filter_same (covers es s p) (λ x. is_before s.now x.until) true
    (λ x h. (and_parts (includes s x.grantee) (is_before s.now x.until) (and_parts (holds_for s x) (reaches es x.path p) h).0).1)
    c.permissions))

group-moment : (s : Standing) (m : ℤ) (o : Option ℕ) → group_passage (at m s) o ≡ group_passage s o
group-moment s m None = refl
group-moment s m (Some n) = refl

-- gates don't ask the moment
passage-moment : (s : Standing) (m : ℤ) (g : Gate) → refusal_of_gate (at m s) g ≡ refusal_of_gate s g
passage-moment s m g =
    ap (λ o. if g.level == 1 then refused_unless G1 s.community
    else if g.level == 2 then refused_unless G2 (s.community || s.connected)
    else if g.level == 3 then None
    else if g.level == 4 then o
    else if g.level == 5 then None
    else refused_unless G0 s.source) (group-moment s m g.group)

refusal-moment : (c : Case) (s : Standing) (p : Tokens) (m : ℤ) → refusal_at c (at m s) p ≡ refusal_at c s p
refusal-moment c s p m =
    let same : refusal_of_gate (at m s) ≡ refusal_of_gate s = λ i g. passage-moment s m g i in
    ap (λ f. first_of (flat_map (λ q. filter_map f (filter (λ g. same_path g.path q) c.gates)) (prefixes p))) same

includes-moment : (s : Standing) (m : ℤ) (x : Grantee) → includes (at m s) x ≡ includes s x
includes-moment s m (Person n) = refl
includes-moment s m (Org n) = refl
includes-moment s m (Community n) = refl
includes-moment s m (Group n) = refl

covers-moment : (es : List LocatedLine) (s : Standing) (p : Tokens) (m : ℤ) (x : Permission) →
    covers es (at m s) p x ≡ ((includes s x.grantee && is_before m x.until) && reaches es x.path p)
covers-moment es s p m x = ap (λ b. (b && is_before m x.until) && reaches es x.path p) (includes-moment s m x.grantee)

any-where : {X : Type 0} (f g : X → Bool) (xs : List X) → All (λ x. f x ≡ g x) xs → list_any f xs ≡ list_any g xs
any-where f g [] same = refl
any-where f g (x ∷ xs) same =
    ap (λ b. b || list_any f xs) (same 0 x (omega arith))
    ∙ ap (λ b. g x || b) (any-where f g xs (All-tail (λ y. f y ≡ g y) x xs same))

pub endless-any-moment : (es : List LocatedLine) (c : Case) (s : Standing) (p : Tokens) (m : ℤ) → All (λ x. x.until ≡ None) c.permissions →
    verdict_of es c (record s { now = m }) p ≡ verdict_of es c s p
endless-any-moment es c s p m endless =
    let l = label_at es p in
    ap (λ r. if s.source || (is_none r && (is_cleared_for s l || is_covered es c (at m s) p)) then Shown (showing_rule s l) else Hidden (unwrap_or r (hidden_by (handling_for s l)))) (refusal-moment c s p m)
    ∙ ap (verdict_if es c s p)
    (any-where (covers es (at m s) p) (covers es s p) c.permissions
    (λ k d below. let x = slice_index_or c.permissions k d in
    covers-moment es s p m x
    ∙ ap (λ e. (includes s x.grantee && is_before m e) && reaches es x.path p) (endless k d below)
    ∙ ap (λ e. (includes s x.grantee && is_before s.now e) && reaches es x.path p) (sym (endless k d below))))

-- a moment before the end has earlier moments before the end
before-earlier : (n m : ℤ) (end : Option ℤ) → n ≤ℤ m → is_before m end ≡ true → is_before n end ≡ true
before-earlier n m None le h = refl
before-earlier n m (Some end) le h = grind (arith, ints, le, h)

pub later-sees : (es : List LocatedLine) (c : Case) (s : Standing) (p : Tokens) (m : ℤ) → s.now ≤ℤ m →
    is_visible es c (record s { now = m }) p ≡ true → is_visible es c s p ≡ true
later-sees es c s p m le h =
    let l = label_at es p in
    stays s.source s.source (is_none (refusal_at c (at m s) p)) (is_none (refusal_at c s p)) (is_cleared_for s l) (is_cleared_for s l) (is_covered es c (at m s) p) (is_covered es c s p)
    refl
    (λ r. ap is_none (sym (refusal-moment c s p m)) ∙ r)
    (λ k. k)
    (any-weaker (covers es (at m s) p) (covers es s p)
    (λ x k. let now = sym (covers-moment es s p m x) ∙ k in
    let parts = and_parts (includes s x.grantee && is_before m x.until) (reaches es x.path p) now in
    let holds = and_parts (includes s x.grantee) (is_before m x.until) parts.0 in
    and_from (holds_for s x) (reaches es x.path p)
    (and_from (includes s x.grantee) (is_before s.now x.until) holds.0 (before-earlier s.now m x.until le holds.1)) parts.1)
    c.permissions) h
