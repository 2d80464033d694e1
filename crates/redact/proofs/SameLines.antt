-- A question to all lines has the same answer for two documents if the lines that differ answer nothing.
use Rattle.std.proofs.Common.{◌≡◌, ◌+◌, arith, cond, ℕ, Bool, true, false, not, List, [], ◌∷◌, ◌++◌, refl, sym, ◌∙◌, ap, map, if◌then◌else◌, ◌||◌}
use Rattle.{std.specs.{List.{AllByRecursion, flat_map, list_any}, Prelude.{filter, count_by, length}}, iodef_tree.specs.Paths.LocatedLine}
use Rattle.redact.{proofs.{Counts.count_by-cons, Filtered.each-from}, specs.Alike.by_class}

-- ---- joined lists

pub flat-kept : {X : Type 0} (h : LocatedLine → List X) (keep : LocatedLine → Bool) (es : List LocatedLine) → AllByRecursion (λ e. keep e ≡ false → h e ≡ []) es → flat_map h (filter keep es) ≡ flat_map h es
flat-kept h keep [] n = refl
flat-kept h keep (e ∷ es) n = by_test (keep e) refl (flat-kept h keep es n.1)
  where
    by_test : (b : Bool) → keep e ≡ b → flat_map h (filter keep es) ≡ flat_map h es → flat_map h (if b then e ∷ filter keep es else filter keep es) ≡ h e ++ flat_map h es
    by_test true k ih = ap (λ xs. h e ++ xs) ih
    by_test false k ih = ih ∙ sym (ap (λ xs. xs ++ flat_map h es) (n.0 k))

pub flat-agree : {X : Type 0} (h h' : LocatedLine → List X) (keep : LocatedLine → Bool) (es : List LocatedLine) → AllByRecursion (λ e. keep e ≡ true → h e ≡ h' e) es → flat_map h (filter keep es) ≡ flat_map h' (filter keep es)
flat-agree h h' keep [] n = refl
flat-agree h h' keep (e ∷ es) n = by_test (keep e) refl (flat-agree h h' keep es n.1)
  where
    by_test : (b : Bool) → keep e ≡ b → flat_map h (filter keep es) ≡ flat_map h' (filter keep es) →
        flat_map h (if b then e ∷ filter keep es else filter keep es) ≡ flat_map h' (if b then e ∷ filter keep es else filter keep es)
    by_test true k ih = ap (λ xs. h e ++ xs) ih ∙ ap (λ x. x ++ flat_map h' (filter keep es)) (n.0 k)
    by_test false k ih = ih

flat-by_class : {X : Type 0} (h : LocatedLine → List X) → ((e : LocatedLine) → h (by_class e) ≡ h e) → (es : List LocatedLine) → flat_map h (map by_class es) ≡ flat_map h es
flat-by_class h same [] = refl
flat-by_class h same (e ∷ es) = ap (λ xs. h (by_class e) ++ xs) (flat-by_class h same es) ∙ ap (λ x. x ++ flat_map h es) (same e)

-- The lines that are kept are the same, the others answer nothing, and the answer depends only on the class of a line.
pub same_flat : {X : Type 0} (h h' : LocatedLine → List X) (keep : LocatedLine → Bool) (es es' : List LocatedLine) →
    map by_class (filter keep es) ≡ map by_class (filter keep es') →
    AllByRecursion (λ e. keep e ≡ false → h e ≡ []) es → AllByRecursion (λ e. keep e ≡ false → h' e ≡ []) es' →
    ((e : LocatedLine) → h' (by_class e) ≡ h' e) → AllByRecursion (λ e. keep e ≡ true → h e ≡ h' e) es → flat_map h es ≡ flat_map h' es'
same_flat h h' keep es es' lines none none' same agree =
    sym (flat-kept h keep es none) ∙ flat-agree h h' keep es agree ∙ sym (flat-by_class h' same (filter keep es))
    ∙ ap (flat_map h') lines ∙ flat-by_class h' same (filter keep es') ∙ flat-kept h' keep es' none'

-- ---- tests

abbrev pub marks : (LocatedLine → Bool) → LocatedLine → List ℕ
marks f e = if f e then 0 ∷ [] else []

abbrev pub is_empty : {X : Type 0} → List X → Bool
is_empty [] = true
is_empty (x ∷ xs) = false

pub any-marks : (f : LocatedLine → Bool) (es : List LocatedLine) → list_any f es ≡ not (is_empty (flat_map (marks f) es))
any-marks f [] = refl
any-marks f (e ∷ es) = by_test (f e) (any-marks f es)
  where
    by_test : (b : Bool) → list_any f es ≡ not (is_empty (flat_map (marks f) es)) → (b || list_any f es) ≡ not (is_empty ((if b then 0 ∷ [] else []) ++ flat_map (marks f) es))
    by_test true ih = refl
    by_test false ih = ih

pub same_marks : (f f' : LocatedLine → Bool) (keep : LocatedLine → Bool) (es es' : List LocatedLine) →
    map by_class (filter keep es) ≡ map by_class (filter keep es') →
    AllByRecursion (λ e. keep e ≡ false → f e ≡ false) es → AllByRecursion (λ e. keep e ≡ false → f' e ≡ false) es' →
    ((e : LocatedLine) → f' (by_class e) ≡ f' e) → AllByRecursion (λ e. keep e ≡ true → f e ≡ f' e) es → flat_map (marks f) es ≡ flat_map (marks f') es'
same_marks f f' keep es es' lines none none' same agree =
    same_flat (marks f) (marks f') keep es es' lines
    (each-from (λ e. keep e ≡ false → f e ≡ false) (λ e. keep e ≡ false → marks f e ≡ []) (λ e h k. ap (λ b. if b then 0 ∷ [] else []) (h k)) es none)
    (each-from (λ e. keep e ≡ false → f' e ≡ false) (λ e. keep e ≡ false → marks f' e ≡ []) (λ e h k. ap (λ b. if b then 0 ∷ [] else []) (h k)) es' none')
    (λ e. ap (λ b. if b then 0 ∷ [] else []) (same e))
    (each-from (λ e. keep e ≡ true → f e ≡ f' e) (λ e. keep e ≡ true → marks f e ≡ marks f' e) (λ e h k. ap (λ b. if b then 0 ∷ [] else []) (h k)) es agree)

pub same_any : (f f' : LocatedLine → Bool) (keep : LocatedLine → Bool) (es es' : List LocatedLine) →
    map by_class (filter keep es) ≡ map by_class (filter keep es') →
    AllByRecursion (λ e. keep e ≡ false → f e ≡ false) es → AllByRecursion (λ e. keep e ≡ false → f' e ≡ false) es' →
    ((e : LocatedLine) → f' (by_class e) ≡ f' e) → AllByRecursion (λ e. keep e ≡ true → f e ≡ f' e) es → list_any f es ≡ list_any f' es'
same_any f f' keep es es' lines none none' same agree =
    any-marks f es ∙ ap (λ xs. not (is_empty xs)) (same_marks f f' keep es es' lines none none' same agree) ∙ sym (any-marks f' es')

pub count-marks : (f : LocatedLine → Bool) (es : List LocatedLine) → count_by f es ≡ length (flat_map (marks f) es)
count-marks f [] = refl
count-marks f (e ∷ es) = count_by-cons f e es ∙ by_test (f e) (count-marks f es)
  where
    by_test : (b : Bool) → count_by f es ≡ length (flat_map (marks f) es) → cond b 1 0 + count_by f es ≡ length ((if b then 0 ∷ [] else []) ++ flat_map (marks f) es)
    by_test true ih = omega (arith, ih)
    by_test false ih = omega (arith, ih)
