-- What is sure stays sure as lines come, and what is known of the open classes makes it sure that a want is met.
use Rattle.std.proofs.Common.{◌≡◌, ℕ, zero, suc, ◌+◌, ◌-◌, ◌^◌, ◌≤◌, ◌<◌, Bool, true, false, not, ◌&&◌, ◌||◌, ◌⊎◌, inl, inr, List, [], ◌∷◌, ◌++◌, length, take}
use Rattle.std.proofs.{Common.{append_assoc, append-nil, refl, sym, ◌∙◌, ap, subst, arith, if◌then◌else◌}, lemmas.Bool.{true≢false, false≢true, and_parts}}
use Rattle.std.proofs.lemmas.{Bool.{and_from, or_left, or_right, or_parts, not-true}, List.{length-append, length-take-le, Folds.list_any-append}}
use Rattle.std.specs.{List.list_any, Prelude.{Option, Some, None, Ok, is_none, option_map, string_bytes, codes}, Str.bytes_eq}
use Rattle.iodef_tree.proofs.{Order.{is_false, bytes_eq-true, same_path-refl, same_path-true}, Outlines.{Came, came, back-push, outline-back}}
use Rattle.iodef_tree.specs.{Outline.{back, deepest, may_come, is_outline}, Paths.{LocatedLine, is_class_kind, is_class, has_class, parent_path, place_among}}
use Rattle.iodef_tree.specs.{Paths.{placed, located}, Shown.Shows, Text.{Bytes, Tokens, same_path}, Tree.{steps, place_of}}
use Rattle.{iodef_tree.specs.declared.{fault.OutlineFault.OutlineFault, line.{Kind.Kind, Line.Line}}, marking.specs.{Label.extended, Marks.{Held, absent}}}
use Rattle.marking.specs.Marks.{one_text, other, held_by_kind, held_by_line, is_member, held_at, restriction_at, ext_restriction_at, first_bad_marking}
use Rattle.{policy.specs.{Verdict.{is_cleared_for, is_visible}, declared.{case.Case.Case, standing.Standing.Standing}}, redact.proofs.Fresh.holds-nothing}
use Rattle.redact.proofs.{Lengthened.{located-append, onto-push, any-stays, any-implied, parent-old, parent-new}, Permitted.follow-seen, Settles.text-stays}
use Rattle.redact.proofs.{Settles.{held-same, held-first, label-seen}, Taking.more-outline, Tracking.{tracks-none, is-counted, tracks-more}, Unrefused.all-seen}
use Rattle.redact.specs.{Probed.{InEach, IsSure, ProbeState, ProbesLine}, Sifted.{way, IsCounted, went_on, located_back, Tracks}, Told.is_seen_class}
use Rattle.redact.specs.{Told.{is_named, is_hit, holds_needle}, Wants.{meets, meets_by}, declared.open_classes.{Beside.Beside, Open.Open, Seeker.Seeker}}
use Rattle.redact.specs.{declared.{open_classes.Sight.Sight, want.Want.Want}, inner.Seeking.{wants_name_by, wants_name, wants_line_by, wants_line}}
use Rattle.redact.specs.inner.Seeking.{holds_wanted_by, holds_wanted, is_wanted_at, some_refuses, sees_all, sight_of, is_everything, is_cleared_sight}
use Rattle.redact.specs.inner.Seeking.{text_by_kind, plain_text, beside_by, first_beside, beside_with, is_cleared_if, is_restriction, shows_class, entered}
use Rattle.redact.specs.inner.Seeking.{holding, innermost_holding, is_permitted, with_opened_class, open_with_line, is_settled, IsBeside, IsSeen, IsOpen}
use Rattle.redact.specs.inner.Seeking.{AreOpen, Follows, IsKnown, TakesTo}
use Rattle.iodef_tree.specs.declared.line.Kind.TheVariants as kind
use Rattle.redact.specs.declared.open_classes.Sight.TheVariants as sight
use Rattle.redact.specs.declared.open_classes.Beside.TheVariants as beside

-- ---- one line more

in-each-more : (ls : List Line) (l : Line) (P : List Line → Type 0) → InEach ls P → InEach (ls ++ l ∷ []) P
in-each-more ls l P each more outline marked =
    let longer : (ls ++ l ∷ []) ++ more ≡ ls ++ l ∷ more = append_assoc ls (l ∷ []) more in
    subst P (sym longer)
    (each (l ∷ more) (subst (λ all. is_outline all ≡ true) longer outline) (subst (λ all. first_bad_marking (located all) ≡ None) longer marked))

pub sure-more : (w : Want) (ls : List Line) (l : Line) (c : Case) (s : Standing) → IsSure w ls c s → IsSure w (ls ++ l ∷ []) c s
sure-more w ls l c s sure = in-each-more ls l (λ all. meets w all c s ≡ true) sure

-- with no more lines
pub sure-now : (w : Want) (ls : List Line) (c : Case) (s : Standing) → IsSure w ls c s → is_outline ls ≡ true → first_bad_marking (located ls) ≡ None → meets w ls c s ≡ true
sure-now w ls c s sure outline marked =
    let same : ls ++ [] ≡ ls = append-nil ls in
    subst (λ all. meets w all c s ≡ true) same
    (sure [] (subst (λ all. is_outline all ≡ true) (sym same) outline) (subst (λ all. first_bad_marking (located all) ≡ None) (sym same) marked))

-- ---- how much the reader sees

sight-all : (c : Case) (s : Standing) → is_everything (sight_of c s) ≡ true → sees_all c s ≡ true
sight-all c s h = by_value (sees_all c s) (some_refuses c s) h
  where
    by_value : (a b : Bool) → is_everything (if a then sight.Everything else if b then sight.Unsure else sight.Cleared) ≡ true → a ≡ true
    by_value true b h = refl
    by_value false true h = absurd (false≢true h)
    by_value false false h = absurd (false≢true h)

sight-passes : (c : Case) (s : Standing) → is_cleared_sight (sight_of c s) ≡ true → some_refuses c s ≡ false
sight-passes c s h = by_value (sees_all c s) (some_refuses c s) h
  where
    by_value : (a b : Bool) → is_cleared_sight (if a then sight.Everything else if b then sight.Unsure else sight.Cleared) ≡ true → b ≡ false
    by_value true b h = absurd (false≢true h)
    by_value false true h = absurd (false≢true h)
    by_value false false h = refl

-- ---- what a line is held as

abbrev held_of : Option Bytes → Held
held_of None = other
held_of (Some t) = one_text t

text-held : (l : Line) (r : Bytes) → plain_text l ≡ Some r → held_by_line l ≡ one_text r
text-held l r h = by_value l.in_array l.kind h
  where
    by_value : (b : Bool) (k : Kind) → (if b then None else text_by_kind k l.text) ≡ Some r → (if b then other else held_by_kind k l.text) ≡ one_text r
    by_value true k h = absurd (true≢false (ap is_none h))
    by_value false kind.Class h = absurd (true≢false (ap is_none h))
    by_value false kind.Text h = ap held_of h
    by_value false kind.Value h = absurd (true≢false (ap is_none h))

beside-line : (s : Standing) (l : Line) → IsBeside s (beside_by s (plain_text l)) (held_by_line l)
beside-line s l = by_text (plain_text l) refl
  where
    by_text : (o : Option Bytes) → plain_text l ≡ o → IsBeside s (beside_by s o) (held_by_line l)
    by_text None is = tt
    by_text (Some t) is = by_test (is_cleared_for s (extended t)) refl
      where
        by_test : (b : Bool) → is_cleared_for s (extended t) ≡ b → IsBeside s (if b then beside.Cleared else beside.Other) (held_by_line l)
        by_test true k = (t, text-held l t is, k)
        by_test false k = tt

-- ---- the open classes with a line more

module _ (w : Want) (c : Case) (s : Standing) (ls : List Line) (l : Line) where
  abbrev e : LocatedLine
  e = placed (located_back ls) l

  abbrev longer : List Line
  longer = ls ++ l ∷ []

  back-is : located_back longer ≡ e ∷ located_back ls
  back-is = onto-push ls l []

  here : (f : LocatedLine → Bool) → f e ≡ true → list_any f (located longer) ≡ true
  here f h =
      ap (list_any f) (located-append ls (l ∷ [])) ∙ list_any-append f (located ls) (e ∷ [])
      ∙ or_right (list_any f (located ls)) (f e || false) (or_left (f e) false h)

  holds-stays : (n : Option Bytes) (p : Tokens) → holds_wanted_by n (located ls) p ≡ true → holds_wanted_by n (located longer) p ≡ true
  holds-stays None p h = refl
  holds-stays (Some needle) p h = any-stays _ ls (l ∷ []) h

  has-stays : (p : Tokens) → has_class (located ls) p ≡ true → has_class (located longer) p ≡ true
  has-stays p h = any-stays (λ x. is_class x && same_path x.path p) ls (l ∷ []) h

  -- a class in which the line isn't
  open-stays : (p : Tokens) (o : Open) → same_path e.parent p ≡ false → IsOpen w c s ls p o → IsOpen w c s longer p o
  open-stays p o apart h = record {
    fits = λ k. any-stays (is_wanted_at w p) ls (l ∷ []) (h.fits k);
    holds = λ k. holds-stays (option_map string_bytes w.needle) p (h.holds k);
    shown = λ k. in-each-more ls l (λ all. is_visible (located all) c s p ≡ true) (h.shown k);
    class = has-stays p h.class;
    unlabelled = λ k. held-same ls l p (codes "restriction") (other-class (codes "restriction")) ∙ h.unlabelled k;
    beside = subst (IsBeside s o.beside) (sym (held-same ls l p (codes "ext-restriction") (other-class (codes "ext-restriction")))) h.beside;
  }
    where
      other-class : (name : Bytes) → is_member p name e ≡ false
      other-class name = ap (λ b. b && bytes_eq l.name name) apart

  -- the class of the line holds it
  holds-line : (n : Option Bytes) → wants_line_by n l ≡ true → holds_wanted_by n (located longer) e.parent ≡ true
  holds-line None h = refl
  holds-line (Some needle) h = here (λ x. same_path x.parent e.parent && is_hit needle x.line) (and_from (same_path e.parent e.parent) (is_hit needle l) (same_path-refl e.parent) h)

  -- the class in which the line is
  module _ (k : Sight) (sees : k ≡ sight_of c s) (p : Tokens) (o : Open) (at : e.parent ≡ p) (h : IsOpen w c s ls p o) where
    stands : same_path e.parent p ≡ true
    stands = subst (λ q. same_path e.parent q ≡ true) at (same_path-refl e.parent)

    -- whether the line has this name
    named : (name : Bytes) (b : Bool) → bytes_eq l.name name ≡ b → is_member p name e ≡ b
    named name b is = ap (λ t. t && bytes_eq l.name name) stands ∙ is

    holds-with : (o.holds || wants_line w l) ≡ true → holds_wanted w (located longer) p ≡ true
    holds-with t = by_old o.holds refl t
      where
        by_old : (b : Bool) → o.holds ≡ b → (b || wants_line w l) ≡ true → holds_wanted w (located longer) p ≡ true
        by_old true is t = holds-stays (option_map string_bytes w.needle) p (h.holds is)
        by_old false is t = subst (λ q. holds_wanted w (located longer) q ≡ true) at (holds-line (option_map string_bytes w.needle) t)

    bare-with : (o.labelled || is_restriction l) ≡ false → restriction_at (located longer) p ≡ absent
    bare-with t =
        let parts = or_parts o.labelled (is_restriction l) t in
        held-same ls l p (codes "restriction") (named (codes "restriction") false parts.1) ∙ h.unlabelled parts.0

    beside-more : IsBeside s (beside_with s l o.beside) (ext_restriction_at (located longer) p)
    beside-more = by_name (bytes_eq l.name (codes "ext-restriction")) refl
      where
        first : (x : Beside) → IsBeside s x (ext_restriction_at (located ls) p) → bytes_eq l.name (codes "ext-restriction") ≡ true → IsBeside s (first_beside s l x) (ext_restriction_at (located longer) p)
        first beside.Absent b is = subst (IsBeside s (beside_by s (plain_text l))) (sym (held-first ls l p (codes "ext-restriction") (named (codes "ext-restriction") true is) b)) (beside-line s l)
        first beside.Cleared b is = (b.0, text-stays ls (l ∷ []) p (codes "ext-restriction") b.0 b.1, b.2)
        first beside.Other b is = tt

        by_name : (t : Bool) → bytes_eq l.name (codes "ext-restriction") ≡ t → IsBeside s (if t then first_beside s l o.beside else o.beside) (ext_restriction_at (located longer) p)
        by_name true is = first o.beside h.beside is
        by_name false is = subst (IsBeside s o.beside) (sym (held-same ls l p (codes "ext-restriction") (named (codes "ext-restriction") false is))) h.beside

    -- what is beside the label comes before it
    beside-kept : is_restriction l ≡ true → IsBeside s o.beside (ext_restriction_at (located longer) p)
    beside-kept is = subst (IsBeside s o.beside) (sym (held-same ls l p (codes "ext-restriction") (named (codes "ext-restriction") false other-name))) h.beside
      where
        other-name : bytes_eq l.name (codes "ext-restriction") ≡ false
        other-name = ap (λ n. bytes_eq n (codes "ext-restriction")) (bytes_eq-true l.name (codes "restriction") is)

    shown-by : shows_class k s l o ≡ true → IsSeen w c s longer p
    shown-by t =
        let one = and_parts (is_restriction l) (not o.labelled && (is_cleared_sight k && is_cleared_if s o.beside (plain_text l))) t in
        let two = and_parts (not o.labelled) (is_cleared_sight k && is_cleared_if s o.beside (plain_text l)) one.1 in
        let three = and_parts (is_cleared_sight k) (is_cleared_if s o.beside (plain_text l)) two.1 in
        by_text (plain_text l) refl one.0 (not-true o.labelled two.0) (sight-passes c s (sym (ap is_cleared_sight sees) ∙ three.0)) three.1
      where
        by_text : (r : Option Bytes) → plain_text l ≡ r → is_restriction l ≡ true → o.labelled ≡ false → some_refuses c s ≡ false → is_cleared_if s o.beside r ≡ true → IsSeen w c s longer p
        by_text None text name bare passes clears = absurd (false≢true clears)
        by_text (Some r) text name bare passes clears =
            label-seen c s longer p passes (has-stays p h.class) r o.beside
            (held-first ls l p (codes "restriction") (named (codes "restriction") true name) (h.unlabelled bare) ∙ text-held l r text)
            (beside-kept name) clears

    shown-with : (o.shown || shows_class k s l o) ≡ true → IsSeen w c s longer p
    shown-with t = by_old o.shown refl t
      where
        by_old : (b : Bool) → o.shown ≡ b → (b || shows_class k s l o) ≡ true → IsSeen w c s longer p
        by_old true is t = in-each-more ls l (λ all. is_visible (located all) c s p ≡ true) (h.shown is)
        by_old false is t = shown-by t

    open-holding : IsOpen w c s longer p (holding k s w l o)
    open-holding = record {
      fits = λ t. any-stays (is_wanted_at w p) ls (l ∷ []) (h.fits t);
      holds = holds-with;
      shown = shown-with;
      class = has-stays p h.class;
      unlabelled = bare-with;
      beside = beside-more;
    }

  no-needle : (n : Option Bytes) (p : Tokens) → is_none n ≡ true → holds_wanted_by n (located longer) p ≡ true
  no-needle None p h = refl
  no-needle (Some needle) p h = absurd (false≢true h)

  module _ (k : Sight) (sees : k ≡ sight_of c s) (g : Bool) (gives : g ≡ true → IsSeen w c s longer e.path) (fit : Came (back ls) l) (rising : (j d : ℕ) → 1 ≤ j → j < d → d ≤ deepest (back ls) → length (parent_path (located_back ls) j) < length (parent_path (located_back ls) d))
      (outline : is_outline (ls ++ l ∷ []) ≡ true) where
    abbrev before : List LocatedLine
    before = located_back ls

    -- ---- paths grow longer

    path-longer : length e.parent < length e.path
    path-longer =
        let size = length-append e.parent (steps l.name (place_of l.in_array (place_among before l.depth l.name))) in
        let some = steps-some (place_of l.in_array (place_among before l.depth l.name)) in
        omega (arith, size, some)
      where
        steps-some : (o : Option ℕ) → 1 ≤ length (steps l.name o)
        steps-some None = omega arith
        steps-some (Some j) = omega arith

    rising-more : (j d : ℕ) → 1 ≤ j → j < d → d ≤ deepest (l ∷ back ls) → length (parent_path (e ∷ before) j) < length (parent_path (e ∷ before) d)
    rising-more j d one less deep = elim (depths (is_class_kind l.kind) d deep) [
      | inl a ↦
          let reached = fit.reached in
          subst (λ p. length p < length (parent_path (e ∷ before) d)) (sym (parent-old e before j (omega (arith, less, a))))
          (subst (λ p. length (parent_path before j) < length p) (sym (parent-old e before d a)) (rising j d one less (omega (arith, a, reached))))
      | inr a ↦
          subst (λ p. length p < length (parent_path (e ∷ before) d)) (sym (parent-old e before j (omega (arith, less, a))))
          (subst (λ p. length (parent_path before j) < length p) (sym (parent-new e before d a)) (up-to j one (omega (arith, less, a))))
    ]
      where
        depths : (b : Bool) (d : ℕ) → d ≤ (if b then suc l.depth else l.depth) → (d ≤ l.depth) ⊎ (d ≡ suc l.depth)
        depths true d h = grind arith
        depths false d h = inl h

        up-to : (j : ℕ) → 1 ≤ j → j ≤ l.depth → length (parent_path before j) < length e.path
        up-to j one low = elim (at_or_below j low) [
          | inl a ↦ (let reached = fit.reached in let less = rising j l.depth one a reached in let on = path-longer in omega (arith, less, on))
          | inr a ↦ subst (λ n. length (parent_path before n) < length e.path) (sym a) path-longer
        ]
          where
            at_or_below : (j : ℕ) → j ≤ l.depth → (j < l.depth) ⊎ (j ≡ l.depth)
            at_or_below j h = grind arith

    -- a class further out isn't the one in which the line is
    apart : (d : ℕ) → 1 ≤ d → d < l.depth → same_path e.parent (parent_path before d) ≡ false
    apart d one less = by_test (same_path e.parent (parent_path before d)) refl
      where
        by_test : (b : Bool) → same_path e.parent (parent_path before d) ≡ b → b ≡ false
        by_test false is = refl
        by_test true is =
            let reached = fit.reached in
            let same : length e.parent ≡ length (parent_path before d) = ap length (same_path-true e.parent (parent_path before d) is) in
            let grows = rising d l.depth one less reached in
            absurd (omega (arith, same, grows))

    -- ---- the classes

    -- the class of the line, if it is one
    open-entered : is_class_kind l.kind ≡ true → IsOpen w c s longer e.path (entered k w l g)
    open-entered class = record {
      fits = λ t. here (is_wanted_at w e.path) (and_from (is_class e) _ class (and_from (same_path e.path e.path) (wants_name w l.name) (same_path-refl e.path) t));
      holds = λ t. no-needle (option_map string_bytes w.needle) e.path (needle-none string_bytes w.needle t);
      shown = shown-at;
      class = here (λ x. is_class x && same_path x.path e.path) (and_from (is_class e) (same_path e.path e.path) class (same_path-refl e.path));
      unlabelled = λ t. none-yet (codes "restriction");
      beside = none-yet (codes "ext-restriction");
    }
      where
        shown-at : (is_everything k || g) ≡ true → IsSeen w c s longer e.path
        shown-at t = by_sight (is_everything k) refl t
          where
            by_sight : (b : Bool) → is_everything k ≡ b → (b || g) ≡ true → IsSeen w c s longer e.path
            by_sight true is t = λ more outline marked. all-seen c s (sight-all c s (sym (ap is_everything sees) ∙ is)) (located (longer ++ more)) e.path
            by_sight false is t = gives t

        none-yet : (name : Bytes) → held_at (located longer) e.path name ≡ absent
        none-yet name =
            let on = path-longer in
            holds-nothing ls l name outline (λ is. let none : length e.path ≡ 0 = ap length is in omega (arith, on, none))
            (is_false (same_path e.parent e.path) (λ is. let same : length e.parent ≡ length e.path = ap length (same_path-true e.parent e.path is) in omega (arith, on, same)))

        needle-none : {X Y : Type 0} (f : X → Y) (o : Option X) → is_none o ≡ true → is_none (option_map f o) ≡ true
        needle-none f None h = refl
        needle-none f (Some x) h = absurd (false≢true h)

    -- The classes that stay open are the parents of the same depths. The last of them is the parent of the line.
    inside : (n d : ℕ) (os : List Open) → 1 ≤ d → d + n ≡ suc l.depth → n ≤ length os → AreOpen w c s ls d os → AreOpen w c s longer d (innermost_holding k s w l (take n os))
    inside zero d os one deep low h = tt
    inside (suc n) d [] one deep low h = absurd (omega (arith, low))
    inside (suc zero) d (o ∷ os) one deep low h = (
      subst (λ p. IsOpen w c s longer p (holding k s w l o)) (sym (ap (λ b. parent_path b d) back-is ∙ parent-old e before d (omega (arith, deep))))
          (open-holding k sees (parent_path before d) o (ap (parent_path before) (depth-is deep)) h.0),
      tt,
    )
      where
        depth-is : d + 1 ≡ suc l.depth → l.depth ≡ d
        depth-is q = omega (arith, q)
    inside (suc (suc n)) d (o ∷ []) one deep low h = absurd (omega (arith, low))
    inside (suc (suc n)) d (o ∷ x ∷ os) one deep low h = (
      subst (λ p. IsOpen w c s longer p o) (sym (ap (λ b. parent_path b d) back-is ∙ parent-old e before d (omega (arith, deep))))
          (open-stays (parent_path before d) o (apart d one (omega (arith, deep))) h.0),
      inside (suc n) (suc d) (x ∷ os) (omega (arith, one)) (omega (arith, deep)) (omega (arith, low)) h.1,
    )

    inside-length : (os : List Open) → length (innermost_holding k s w l os) ≡ length os
    inside-length [] = refl
    inside-length (o ∷ []) = refl
    inside-length (o ∷ x ∷ os) = ap suc (inside-length (x ∷ os))

    behind : (d : ℕ) (os : List Open) (o : Open) → AreOpen w c s longer d os → IsOpen w c s longer (parent_path (located_back longer) (d + length os)) o → AreOpen w c s longer d (os ++ o ∷ [])
    behind d [] o h q = (subst (λ n. IsOpen w c s longer (parent_path (located_back longer) n) o) (same d) q, tt)
      where
        same : (n : ℕ) → n + 0 ≡ n
        same n = omega arith
    behind d (x ∷ os) o h q = (h.0, behind (suc d) os o h.1 (subst (λ n. IsOpen w c s longer (parent_path (located_back longer) n) o) (next d (length os)) q))
      where
        next : (m n : ℕ) → m + suc n ≡ suc m + n
        next m n = omega arith

    length-push : {X : Type 0} (xs : List X) (x : X) → length (xs ++ x ∷ []) ≡ suc (length xs)
    length-push [] x = refl
    length-push (y ∷ xs) x = ap suc (length-push xs x)

    rising-longer : (j d : ℕ) → 1 ≤ j → j < d → d ≤ deepest (back longer) → length (parent_path (located_back longer) j) < length (parent_path (located_back longer) d)
    rising-longer j d one less deep =
        subst (λ b. length (parent_path b j) < length (parent_path b d)) (sym back-is)
        (rising-more j d one less (subst (λ ys. d ≤ deepest ys) (back-push ls l) deep))

    -- the class of the line is the innermost
    follows-opened : (os : List Open) → AreOpen w c s longer 2 os → suc (length os) ≡ l.depth → Follows w c s longer (with_opened_class k w l g os)
    follows-opened os h deep = by_class (is_class_kind l.kind) refl
      where
        at : suc (length os) ≡ l.depth → 2 + length os ≡ suc l.depth
        at q = omega (arith, q)

        by_class : (b : Bool) → is_class_kind l.kind ≡ b → Follows w c s longer (if b then os ++ entered k w l g ∷ [] else os)
        by_class true class = record {
          classes = behind 2 os (entered k w l g) h
              (subst (λ p. IsOpen w c s longer p (entered k w l g)) (sym (ap (λ b. parent_path b (2 + length os)) back-is ∙ parent-new e before (2 + length os) (at deep))) (open-entered class));
          deep = ap suc (length-push os (entered k w l g)) ∙ ap suc deep ∙ sym (ap (λ b. if b then suc l.depth else l.depth) class) ∙ sym (ap deepest (back-push ls l));
          rising = rising-longer;
        }
        by_class false class = record {
          classes = h;
          deep = deep ∙ sym (ap (λ b. if b then suc l.depth else l.depth) class) ∙ sym (ap deepest (back-push ls l));
          rising = rising-longer;
        }

  pub follows-more : (k : Sight) → k ≡ sight_of c s → (g : Bool) → (g ≡ true → IsSeen w c s longer e.path) → (os : List Open) → Follows w c s ls os →
      may_come (back ls) l ≡ true → is_outline longer ≡ true → Follows w c s longer (open_with_line k s w l g os)
  follows-more k sees g gives os h fits outline =
      let q = came (back ls) l fits in
      let n = l.depth - 1 in
      let positive = q.positive in
      let reached = q.reached in
      let deep = h.deep in
      let low : n ≤ length os = omega (arith, positive, reached, deep) in
      follows-opened k sees g gives q h.rising outline (innermost_holding k s w l (take n os))
      (inside k sees g gives q h.rising outline n 2 os (omega arith) (omega (arith, positive)) low h.classes)
      (ap suc (inside-length k sees g gives q h.rising outline (take n os) ∙ length-take-le n os low) ∙ omega (arith, positive))

-- before the first line
pub follows-none : (w : Want) (c : Case) (s : Standing) → Follows w c s [] []
follows-none w c s = record { classes = tt; deep = refl; rising = λ j d one less deep. absurd (omega (arith, one, less, deep)) }

-- ---- what is settled

module _ (w : Want) (c : Case) (s : Standing) (ls : List Line) where
  meets-found : (n class : Option Bytes) (all : List Line) (p : Tokens) →
      list_any (λ x. is_class x && (same_path x.path p && wants_name_by n class x.line.name)) (located all) ≡ true →
      holds_wanted_by n (located all) p ≡ true → is_visible (located all) c s p ≡ true → meets_by n class all c s ≡ true
  meets-found None class all p fits holds shown = any-implied _ (is_seen_class all c s) (λ x h.
      let parts = and_parts (is_class x) (same_path x.path p && true) h in
      let at = and_parts (same_path x.path p) true parts.1 in
      and_from (is_class x) (is_visible (located all) c s x.path) parts.0
      (subst (λ q. is_visible (located all) c s q ≡ true) (sym (same_path-true x.path p at.0)) shown)) (located all) fits
  meets-found (Some needle) class all p fits holds shown = any-implied _ _ (λ x h.
      let parts = and_parts (is_class x) (same_path x.path p && is_named class x.line.name) h in
      let at = and_parts (same_path x.path p) (is_named class x.line.name) parts.1 in
      let same = same_path-true x.path p at.0 in
      and_from (is_seen_class all c s x) (is_named class x.line.name && holds_needle (located all) needle x.path)
      (and_from (is_class x) (is_visible (located all) c s x.path) parts.0 (subst (λ q. is_visible (located all) c s q ≡ true) (sym same) shown))
      (and_from (is_named class x.line.name) (holds_needle (located all) needle x.path) at.1 (subst (λ q. holds_needle (located all) needle q ≡ true) (sym same) holds)))
      (located all) fits

  holds-all : (n : Option Bytes) (p : Tokens) (more : List Line) → holds_wanted_by n (located ls) p ≡ true → holds_wanted_by n (located (ls ++ more)) p ≡ true
  holds-all None p more h = refl
  holds-all (Some needle) p more h = any-stays _ ls more h

  settled-sure : (p : Tokens) (o : Open) → IsOpen w c s ls p o → is_settled o ≡ true → IsSure w ls c s
  settled-sure p o h settled more outline marked =
      let parts = and_parts o.shown (o.holds && o.fits) settled in
      let both = and_parts o.holds o.fits parts.1 in
      meets-found (option_map string_bytes w.needle) (option_map string_bytes w.class) (ls ++ more) p
      (any-stays (is_wanted_at w p) ls more (h.fits both.1))
      (holds-all (option_map string_bytes w.needle) p more (h.holds both.0))
      (h.shown parts.0 more outline marked)

  some-sure : (d : ℕ) (os : List Open) → AreOpen w c s ls d os → list_any is_settled os ≡ true → IsSure w ls c s
  some-sure d [] h none = absurd (false≢true none)
  some-sure d (o ∷ os) h some = by_test (is_settled o) refl (some-sure (suc d) os h.1) some
    where
      by_test : (b : Bool) → is_settled o ≡ b → (list_any is_settled os ≡ true → IsSure w ls c s) → (b || list_any is_settled os) ≡ true → IsSure w ls c s
      by_test true is rest k = settled-sure (parent_path (located_back ls) d) o h.0 is
      by_test false is rest k = rest k

  pub found-sure : (os : List Open) → Follows w c s ls os → list_any is_settled os ≡ true → IsSure w ls c s
  found-sure os h some = some-sure 2 os h.classes some

-- ---- all that is known

module _ (w : Want) (c : Case) (s : Standing) where
  -- before the first line
  pub known-none : (k : Seeker) → Shows k.shape [] → k.sight ≡ sight_of c s → k.lines.items ≡ [] → k.classes.items ≡ [] → k.steps.items ≡ [] → IsKnown w c s [] false k
  known-none k shows sight lines classes steps = record {
    shows = shows;
    sight = sight;
    lines = λ h. lines;
    classes = λ h. subst (Follows w c s []) (sym classes) (follows-none w c s);
    steps = λ h f. subst (Tracks []) (sym steps) tracks-none;
  }

  -- the lines so far are an outline
  pub known-outline : (ls : List Line) (met : Bool) (k : Seeker) → IsKnown w c s ls met k → is_outline ls ≡ true
  known-outline ls met k h = sym (outline-back ls) ∙ h.shows.outline

  module _ (ls : List Line) (met : Bool) (l : Line) (old new : Seeker) (h : IsKnown w c s ls met old)
      (fits : may_come (back ls) l ≡ true) (shows : Shows new.shape (l ∷ back ls)) (same : new.sight ≡ old.sight) where
    outline-is : is_outline (ls ++ l ∷ []) ≡ true
    outline-is = more-outline ls l h.shows.outline ∙ fits

    shows-is : Shows new.shape (back (ls ++ l ∷ []))
    shows-is = subst (Shows new.shape) (sym (back-push ls l)) shows

    -- if true was returned before
    pub takes-met : met ≡ true → TakesTo w c s ls met l true new
    takes-met is = record {
      outline = outline-is;
      known = record { shows = shows-is; sight = same ∙ h.sight; lines = λ k. absurd (true≢false k); classes = λ k. absurd (true≢false k); steps = λ k. absurd (true≢false k) };
      stays = λ k. refl;
      sure = λ k. absurd (true≢false (sym is ∙ k));
    }

    -- if true was not returned before
    module _ (unmet : met ≡ false) (lines : new.lines.items ≡ old.lines.items ++ l ∷ []) (g : Bool) (classes : new.classes.items ≡ open_with_line old.sight s w l g old.classes.items)
        (followed : new.follows ≡ old.follows) (steps : old.follows ≡ true → IsCounted old.steps.items l → new.steps.items ≡ went_on old.steps.items l)
        (permits : g ≡ (old.follows && (is_class_kind l.kind && is_permitted c s (way new.steps.items)))) where
      small : length ls < 2 ^ 64
      small =
          let kept = h.lines unmet in
          let kept_len = old.lines.ok.0 in
          let kept_room = old.lines.ok.1 in
          let kept_small = old.lines.small in
          subst (λ xs. length xs < 2 ^ 64) kept (omega (arith, kept_len, kept_room, kept_small))

      grown : old.follows ≡ true → new.steps.items ≡ went_on old.steps.items l
      grown f = steps f (is-counted ls old.steps.items l (h.steps unmet f) small)

      more-steps : new.follows ≡ true → Tracks (ls ++ l ∷ []) new.steps.items
      more-steps f =
          let old-follows = sym followed ∙ f in
          subst (Tracks (ls ++ l ∷ [])) (sym (grown old-follows)) (tracks-more ls old.steps.items l (h.steps unmet old-follows) small fits)

      gives : g ≡ true → IsSeen w c s (ls ++ l ∷ []) (placed (located_back ls) l).path
      gives t =
          let both = sym permits ∙ t in
          let follows = (and_parts old.follows (is_class_kind l.kind && is_permitted c s (way new.steps.items)) both).0 in
          follow-seen w c s ls l old.steps.items old.follows (h.steps unmet) fits
          (ap (λ ss. old.follows && (is_class_kind l.kind && is_permitted c s (way ss))) (sym (grown follows)) ∙ both)

      more-follows : Follows w c s (ls ++ l ∷ []) new.classes.items
      more-follows = subst (Follows w c s (ls ++ l ∷ [])) (sym classes)
          (follows-more w c s ls l old.sight h.sight g gives old.classes.items (h.classes unmet) fits outline-is)

      pub takes-more : (b : Bool) → b ≡ list_any is_settled new.classes.items → TakesTo w c s ls met l b new
      takes-more b found = record {
        outline = outline-is;
        known = record { shows = shows-is; sight = same ∙ h.sight; lines = λ k. lines ∙ ap (λ xs. xs ++ l ∷ []) (h.lines unmet); classes = λ k. more-follows; steps = λ k. more-steps };
        stays = λ k. absurd (true≢false (sym k ∙ unmet));
        sure = λ k t. found-sure w c s (ls ++ l ∷ []) new.classes.items more-follows (sym found ∙ t);
      }

  -- if true is returned, it is sure
  pub takes-sure : (ls : List Line) (met : Bool) (l : Line) (b : Bool) (k : Seeker) → TakesTo w c s ls met l b k → (met ≡ true → IsSure w ls c s) → b ≡ true → IsSure w (ls ++ l ∷ []) c s
  takes-sure ls met l b k h before now = by_met met refl
    where
      by_met : (t : Bool) → met ≡ t → IsSure w (ls ++ l ∷ []) c s
      by_met true is = sure-more w ls l c s (before is)
      by_met false is = h.sure is now

  abbrev pub state : List Line → Option OutlineFault → Bool → ProbeState
  state ls fault met = record { case = c; standing = s; want = w; fed = record { lines = ls; fault = fault }; met = met }

  pub probes : (ls xs : List Line) (fault : Option OutlineFault) (met : Bool) (l : Line) (b : Bool) (k : Seeker) → fault ≡ None → xs ≡ ls ++ l ∷ [] → TakesTo w c s ls met l b k →
      (met ≡ true → IsSure w ls c s) → ProbesLine (state ls fault met) l (Ok b) (state xs fault b)
  probes ls xs fault met l b k none is h before = subst (λ f. ProbesLine (state ls f met) l (Ok b) (state xs f b)) (sym none) (record {
    case = refl;
    standing = refl;
    want = refl;
    takes = record {
      ended = tt;
      taken = λ u. (h.outline, λ i. record { lines = is i; fault = None });
      refused = λ u. tt;
    };
    answers = refl;
    stays = h.stays;
    ended = tt;
    sure = λ now. subst (λ ys. IsSure w ys c s) (sym is) (takes-sure ls met l b k h before now);
  })
