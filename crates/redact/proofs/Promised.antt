-- The laws of excerpts and searches.
use Rattle.std.proofs.Common.{◌≡◌, ◌==◌, ◌<◌, ℕ, suc, Bool, true, false, not, ◌&&◌, ◌||◌, List, [], ◌∷◌, length, map, cond, if◌then◌else◌, refl, sym, ◌∙◌, ap}
use Rattle.std.proofs.{Common.{arith, Option, filter, count_by, inl, inr, subst, Some, None, is_some, Contains, IsSomeAnd, flat_map}, lemmas.Bool.and_parts}
use Rattle.std.proofs.lemmas.{Bool.{cond_both, cond-true, cond-false, false≢true, ne_eqb}, List.{length-map, Concat.flat_map-cons}}
use Rattle.std.proofs.lemmas.List.{Elements.{Contains-append_left, Contains-append_right, Contains-append_cases, Contains-push_cases}, Folds.list_any_at}
use Rattle.{std.specs.List.{list_any, zip}, iodef_tree.{proofs.Order.same_path-refl, specs.Paths.{LocatedLine, is_class, is_class_kind, placed, located_after}}}
use Rattle.iodef_tree.specs.{Paths.{located, below, class_paths, classes_of}, Text.{Bytes, Tokens, same_path, is_root, is_under}, declared.line.Line.Line}
use Rattle.policy.specs.{Verdict.is_visible, declared.{case.Case.Case, rule.Rule.Rule, standing.Standing.Standing, verdict.Verdict.TheVariants.{Shown, Hidden}}}
use Rattle.redact.{proofs.{Counts.count_by-cons, InOrder.order-lists, Paired.places-paired}, specs.Kept.{Attribute, Verdicts, stands_before, put, put_all}}
use Rattle.redact.specs.{Kept.{attribute_line, attribute_lines, is_kept, says_label, added_label_lines, with_added_labels, kept_lines, is_frame}, Laws.is_shown}
use Rattle.redact.specs.{Laws.VerdictIsServed, Told.{Told, is_seen_class, is_named, holds_needle, kept_outline, visible_count, is_listed, told_of, excerpt_of}}
use Rattle.redact.specs.{Told.{finds, verdicts_of, excerpt_place, withheld_of, some_seen}, Withheld.{Withheld, withheld_at, withheld_pairs, place_of}}
use Rattle.redact.specs.inner.Paired.{beside, class_places}

-- ---- listed, served, found

any-count : {X : Type 0} (P : X → Bool) (xs : List X) → list_any P xs ≡ not (count_by P xs == 0)
any-count P [] = refl
any-count P (x ∷ xs) = let later = any-count P xs in grind (arith, later, count_by-cons P x xs)

any-less : {X : Type 0} (P Q : X → Bool) (xs : List X) → list_any (λ x. P x && Q x) xs ≡ true → list_any P xs ≡ true
any-less P Q [] h = h
any-less P Q (x ∷ xs) h = let later = any-less P Q xs in grind (arith, later, h)

pub listed-served : (ls : List Line) (c : Case) (s : Standing) → is_listed ls c s ≡ not (visible_count ls c s == 0)
listed-served ls c s = any-count (is_seen_class ls c s) (located ls)

-- ---- the excerpt

-- there is no excerpt if nothing is visible
pub excerpt-none : (ls : List Line) (c : Case) (s : Standing) → visible_count ls c s ≡ 0 → None ≡ excerpt_of ls c s
excerpt-none ls c s none = sym (cond-false (is_listed ls c s) (Some (told_of ls c s)) None (listed-served ls c s ∙ ap (λ n. not (n == 0)) none))

abbrev pub told_as : List Line → List Withheld → ℕ → Told
told_as outline withheld classes = record { outline = outline; withheld = withheld; classes = classes }

pub told-is : (ls : List Line) (c : Case) (s : Standing) (outline : List Line) (withheld : List Withheld) (classes : ℕ) →
    outline ≡ kept_outline ls c s → withheld ≡ withheld_of ls c s → classes ≡ visible_count ls c s → told_as outline withheld classes ≡ told_of ls c s
told-is ls c s outline withheld classes o w n =
    ap (λ x. told_as x withheld classes) o
    ∙ (ap (λ x. told_as (kept_outline ls c s) x classes) w
    ∙ ap (told_as (kept_outline ls c s) (withheld_of ls c s)) n)

above-none : (n : ℕ) → 0 < n → not (n == 0) ≡ true
above-none n h = ap not (ne_eqb n 0 (λ e. absurd (omega (arith, h, e))))

-- otherwise the excerpt is all that is served
pub excerpt-some : (ls : List Line) (c : Case) (s : Standing) (t : Told) → t ≡ told_of ls c s → 0 < t.classes → Some t ≡ excerpt_of ls c s
excerpt-some ls c s t is some =
    ap Some is
    ∙ sym (cond-true (is_listed ls c s) (Some (told_of ls c s)) None (listed-served ls c s ∙ ap (λ (x : Told). not (x.classes == 0)) (sym is) ∙ above-none t.classes some))

pub found-listed : (ls : List Line) (c : Case) (s : Standing) (needle : Bytes) (name : Option Bytes) → finds ls c s needle name ≡ true → is_listed ls c s ≡ true
found-listed ls c s needle name h =
    any-less (is_seen_class ls c s) (λ e. is_named name e.line.name && holds_needle (located ls) needle e.path) (located ls) h

-- ---- class lines

abbrev class_lines : List Line → List Line
class_lines ls = filter (λ l. is_class_kind l.kind) ls

put-plain : (x : Line) (ls : List Line) → is_class_kind x.kind ≡ false → class_lines (put x ls) ≡ class_lines ls
put-plain x [] plain = ap (λ b. if b then x ∷ [] else []) plain
put-plain x (l ∷ ls) plain =
    cond_both (stands_before x l) _ _ (λ ys. class_lines ys ≡ class_lines (l ∷ ls)) (λ _. rw plain) (λ _. ap (λ ys. if is_class_kind l.kind then l ∷ ys else ys) (put-plain x ls plain))

attributes-plain : (d : ℕ) (xs : List Attribute) (ls : List Line) → class_lines (put_all (attribute_lines d xs) ls) ≡ class_lines ls
attributes-plain d [] ls = refl
attributes-plain d (x ∷ xs) ls = put-plain (attribute_line d x) (put_all (attribute_lines d xs) ls) refl ∙ attributes-plain d xs ls

module _ (v : Verdicts) where
  added-plain : (e : LocatedLine) (ls : List Line) → class_lines (put_all (added_label_lines v e) ls) ≡ class_lines ls
  added-plain e ls =
      cond_both (says_label v e) _ _ (λ xs. class_lines (put_all xs ls) ≡ class_lines ls) (λ _. attributes-plain (suc e.line.depth) (v.label e.path) ls) (λ _. refl)

  labelled-classes : (es : List LocatedLine) → class_lines (with_added_labels v es) ≡ map (λ e. e.line) (filter is_class es)
  labelled-classes [] = refl
  labelled-classes (e ∷ es) =
      rw (added-plain e (with_added_labels v es), labelled-classes es)
      (cond_both (is_class e) _ _ (λ xs. (if is_class e then e.line ∷ map (λ e. e.line) (filter is_class es) else map (λ e. e.line) (filter is_class es)) ≡ map (λ e. e.line) xs)
      (λ k. rw k) (λ k. rw k))

pub classes-stay : (v : Verdicts) (es : List LocatedLine) → class_lines (kept_lines v es) ≡ map (λ e. e.line) (filter is_class (filter (is_kept v) es))
classes-stay v es = labelled-classes v (filter (is_kept v) es)

-- ---- each kept class has its place

lines-beside : {X Y : Type 0} (b : Bool) (x : X) (y : Y) (xs : List X) (ys : List Y) → length xs ≡ length ys → length (if b then x ∷ xs else xs) ≡ length (if b then y ∷ ys else ys)
lines-beside true x y xs ys e = ap suc e
lines-beside false x y xs ys e = e

count-located : (before : List LocatedLine) (ls : List Line) → length (filter is_class (located_after before ls)) ≡ length (class_lines ls)
count-located before [] = refl
count-located before (l ∷ ls) = let e = placed before l in lines-beside (is_class_kind l.kind) e l _ _ (count-located (e ∷ before) ls)

-- a path that is among as many paths has one beside it
beside-some : (ps qs : List Tokens) (p : Tokens) → length ps ≡ length qs → list_any (λ q. same_path q p) ps ≡ true → is_some (beside (zip ps qs) p) ≡ true
beside-some [] qs p e h = absurd (false≢true h)
beside-some (x ∷ ps) [] p e h = absurd (omega (arith, e))
beside-some (x ∷ ps) (y ∷ qs) p e h = split (same_path x p) (beside-some ps qs p (omega (arith, e))) h
  where
    split : (b : Bool) → (list_any (λ q. same_path q p) ps ≡ true → is_some (beside (zip ps qs) p) ≡ true) → (b || list_any (λ q. same_path q p) ps) ≡ true →
        is_some (if b then Some y else beside (zip ps qs) p) ≡ true
    split true later h = refl
    split false later h = later h

module _ (v : Verdicts) (p : Tokens) where
  abbrev is_at : Tokens → Bool
  is_at q = same_path q p

  abbrev is_kept_at : LocatedLine → Bool
  is_kept_at e = is_kept v e && (is_class e && is_at e.path)

  kept-among : (es : List LocatedLine) → list_any is_kept_at es ≡ true → list_any is_at (class_paths (filter (is_kept v) es)) ≡ true
  kept-among [] h = absurd (false≢true h)
  kept-among (e ∷ es) h = by_kept (is_kept v e) (kept-among es) h
    where
      by_class : (class : Bool) → (list_any is_kept_at es ≡ true → list_any is_at (class_paths (filter (is_kept v) es)) ≡ true) → ((class && is_at e.path) || list_any is_kept_at es) ≡ true →
          list_any is_at (map (λ (x : LocatedLine). x.path) (if class then e ∷ filter is_class (filter (is_kept v) es) else filter is_class (filter (is_kept v) es))) ≡ true
      by_class true later h = grind (arith, later, h)
      by_class false later h = later h

      by_kept : (kept : Bool) → (list_any is_kept_at es ≡ true → list_any is_at (class_paths (filter (is_kept v) es)) ≡ true) →
          ((kept && (is_class e && is_at e.path)) || list_any is_kept_at es) ≡ true → list_any is_at (class_paths (if kept then e ∷ filter (is_kept v) es else filter (is_kept v) es)) ≡ true
      by_kept true later h = by_class (is_class e) later h
      by_kept false later h = later h

place-some : (root : Bool) (ps : List (Tokens × Tokens)) (p : Tokens) → is_some (beside ps p) ≡ true → is_some (if root then Some [] else beside ps p) ≡ true
place-some true ps p h = refl
place-some false ps p h = h

kept-placed : (v : Verdicts) (es : List LocatedLine) (e : LocatedLine) → Contains es e → is_class e ≡ true → is_kept v e ≡ true → is_some (place_of v es e.path) ≡ true
kept-placed v es e here class keeps =
    let F : List LocatedLine = filter is_class (filter (is_kept v) es) in
    let L : List LocatedLine = filter is_class (located (kept_lines v es)) in
    let size : length (class_paths (filter (is_kept v) es)) ≡ length (classes_of (kept_lines v es)) =
    length-map F (λ (x : LocatedLine). x.path)
    ∙ sym (length-map F (λ (x : LocatedLine). x.line))
    ∙ ap length (sym (classes-stay v es))
    ∙ sym (count-located [] (kept_lines v es))
    ∙ sym (length-map L (λ (x : LocatedLine). x.path)) in
    let own : is_kept_at v e.path e ≡ true = rw (keeps, class, same_path-refl e.path) refl in
    let found : list_any (is_kept_at v e.path) es ≡ true = list_any_at (is_kept_at v e.path) es here.0 e here.1 (ap (is_kept_at v e.path) here.2 ∙ own) in
    ap is_some (places-paired v es e.path)
    ∙ place-some (is_root e.path) (class_places v es) e.path
    (beside-some (class_paths (filter (is_kept v) es)) (classes_of (kept_lines v es)) e.path size (kept-among v e.path es found))

-- ---- a verdict agrees with what is served

by_sight : (b : Bool) (x y : Rule) → is_shown (cond b (Shown x) (Hidden y)) ≡ b
by_sight b x y = grind arith

by_rule : (b : Bool) (x y r : Rule) → cond b (Shown x) (Hidden y) ≡ Hidden r → r ≡ y
by_rule b x y r h = grind arith

-- what one element gives is among what all give
among : {X Y : Type 0} (f : X → List Y) (xs : List X) (x : X) (y : Y) → Contains xs x → Contains (f x) y → Contains (flat_map f xs) y
among f [] x y in_xs in_fx = absurd (omega (arith, in_xs.1))
among f (z ∷ zs) x y in_xs in_fx = rw (flat_map-cons f z zs) (elim (Contains-append_cases (z ∷ []) zs x in_xs) [
  | inl here ↦ Contains-append_left (f z) (flat_map f zs) y (elim (Contains-push_cases [] z x here) [
    | inl never ↦ absurd (omega (arith, never.1))
    | inr same ↦ subst (λ w. Contains (f w) y) (sym same) in_fx
  ])
  | inr later ↦ Contains-append_right (f z) (flat_map f zs) y (among f zs x y later in_fx)
])

-- a frame is listed at its place
told_frame : (v : Verdicts) (place : Tokens → Option Tokens) (e : LocatedLine) (q : Tokens) → is_class e ≡ true → is_frame v e.path ≡ true → place e.path ≡ Some q → Contains (withheld_at v place e) (q, v.rule e.path)
told_frame v place e q class frame there = rw (class, frame, there) (0, omega arith, refl)

kept_by : (class visible frame plain : Bool) → class ≡ true → frame ≡ true → (if class then visible || frame else plain) ≡ true
kept_by class visible frame plain h k = grind arith

-- an incident is listed if one of its classes is visible, or is a frame
seen_listed : (ls : List Line) (c : Case) (s : Standing) (e : LocatedLine) → Contains (located ls) e → is_class e ≡ true → is_visible (located ls) c s e.path ≡ true → is_listed ls c s ≡ true
seen_listed ls c s e here class sees =
    let own : is_seen_class ls c s e ≡ true = rw (class, sees) refl in
    list_any_at (is_seen_class ls c s) (located ls) here.0 e here.1 (ap (is_seen_class ls c s) here.2 ∙ own)

any-within : {X : Type 0} (P Q : X → Bool) (xs : List X) → list_any P (filter Q xs) ≡ true → list_any P xs ≡ true
any-within P Q [] h = h
any-within P Q (x ∷ xs) h = by_test (Q x) (any-within P Q xs) h
  where
    by_test : (b : Bool) → (list_any P (filter Q xs) ≡ true → list_any P xs ≡ true) → list_any P (if b then x ∷ filter Q xs else filter Q xs) ≡ true → (P x || list_any P xs) ≡ true
    by_test true later k = grind (arith, later, k)
    by_test false later k = grind (arith, later, k)

frame_listed : (ls : List Line) (c : Case) (s : Standing) (p : Tokens) → is_frame (verdicts_of (located ls) c s) p ≡ true → is_listed ls c s ≡ true
frame_listed ls c s p frame =
    let seen : some_seen (is_visible (located ls) c s) (below p (located ls)) ≡ true = (and_parts (not (is_visible (located ls) c s p)) _ frame).1 in
    any-within (is_seen_class ls c s) (λ e. is_under p e.path) (located ls) seen

pub verdicts-served : (ls : List Line) (c : Case) (s : Standing) (e : LocatedLine) → Contains (located ls) e → is_class e ≡ true → VerdictIsServed ls c s e
verdicts-served ls c s e here class =
    let v = verdicts_of (located ls) c s in
    record {
      shown = by_sight (is_visible (located ls) c s e.path) _ _;
      hidden = λ r is. by_rule (is_visible (located ls) c s e.path) _ _ r is;
      served = λ sees. served (is_listed ls c s) (seen_listed ls c s e here class sees);
      frame = λ frame. listed (λ t. IsSomeAnd (excerpt_place ls c s e.path) (λ q. Contains t.withheld (q, v.rule e.path))) (is_listed ls c s) (frame_listed ls c s e.path frame) (told (excerpt_place ls c s e.path) refl frame
          (kept-placed v (located ls) e here class (kept_by (is_class e) (v.visible e.path) (is_frame v e.path) _ class frame)));
    }
  where
    served : (b : Bool) → b ≡ true → is_some (if b then Some (told_of ls c s) else None) ≡ true
    served true h = refl
    served false h = absurd (false≢true h)

    listed : (P : Told → Type 0) (b : Bool) → b ≡ true → P (told_of ls c s) → IsSomeAnd (if b then Some (told_of ls c s) else None) P
    listed P true h k = k
    listed P false h k = absurd (false≢true h)

    told : (o : Option Tokens) → excerpt_place ls c s e.path ≡ o → is_frame (verdicts_of (located ls) c s) e.path ≡ true → is_some o ≡ true →
        IsSomeAnd o (λ q. Contains (withheld_of ls c s) (q, (verdicts_of (located ls) c s).rule e.path))
    told None is frame some = absurd (false≢true some)
    told (Some q) is frame some =
        let v = verdicts_of (located ls) c s in
        let place = place_of v (located ls) in
        (order-lists (withheld_pairs v (located ls))).complete _ (among (withheld_at v place) (located ls) e _ here (told_frame v place e q class frame is))
