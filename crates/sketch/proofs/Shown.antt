-- What a reader is shown, by the least handling, the gates and the permissions.
use Rattle.std.proofs.Common.{arith, ◌≡◌, List, [], ◌∷◌, Bool, true, false, cond, ◌&&◌, ◌||◌, map, filter, refl, sym, ◌∙◌, ap, Option, Some, None}
use Rattle.std.proofs.{Math.Bool.{or_assoc, and-true}, lemmas.{Bool.{and_parts, false≢true, Decides.nat_tests}, List.Folds.Any-from_list_any}}
use Rattle.{std.specs.{List.list_any, Prelude.is_none}, iodef_tree.{proofs.Order.is_false, specs.Paths.{LocatedLine, is_class, class_paths, located}}}
use Rattle.{iodef_tree.specs.{Text.{Tokens, is_root}, declared.line.Line.Line}, marking.specs.Label.{LabelValue, public, white, partner, green, need_to_know}}
use Rattle.marking.specs.{Label.{amber, private, red, by_arrangement, extended, is_at_most}, Marks.label_at, declared.label.Handling.Handling}
use Rattle.policy.{proofs.{Sight.any-weaker, Steps.any_same}, specs.{Clearance.clearance_of, Permissions.{holds_for, reaches, covers}, Reach.is_refusing}}
use Rattle.policy.specs.{Reach.{is_shutting, reach_of}, Verdict.{refusal_at, handling_for, is_cleared_for, is_covered, is_visible}, declared.case.Case.Case}
use Rattle.{policy.specs.declared.standing.Standing.Standing, redact.proofs.{Searching.any_map, Shut.root-tells-nothing, Unrefused.unrefused}}
use Rattle.{redact.specs.Told.{is_seen_class, is_listed}, sketch.specs.{Judged.{reader_least, is_cleared, cleared_for}, Labels.{fixed_handling, handling_at}}}
use Rattle.sketch.specs.{Labels.{handlings, lesser, least_from, least_of, has_some_class}, Laws.least_for}

-- ---- the least of some handlings

at_most-trans : (a b c : Handling) → is_at_most a b ≡ true → is_at_most b c ≡ true → is_at_most a c ≡ true
at_most-trans a b c h k = grind arith

module _ (s : Standing) where
  label-cleared : (l : LabelValue) → is_cleared_for s l ≡ cleared_for s (fixed_handling l)
  label-cleared public = refl
  label-cleared white = refl
  label-cleared partner = refl
  label-cleared green = refl
  label-cleared need_to_know = refl
  label-cleared amber = refl
  label-cleared private = refl
  label-cleared red = refl
  label-cleared by_arrangement = refl
  label-cleared (extended t) = refl

  cleared-lesser : (a b : Option Handling) → is_cleared s (lesser a b) ≡ (is_cleared s a || is_cleared s b)
  cleared-lesser None b = refl
  cleared-lesser (Some a) None = grind arith
  cleared-lesser (Some a) (Some b) = by_order (is_at_most a b) refl
    where
      by_order : (o : Bool) → is_at_most a b ≡ o → is_at_most (cond o a b) (clearance_of s).0 ≡ (is_at_most a (clearance_of s).0 || is_at_most b (clearance_of s).0)
      by_order true is = up (is_at_most a (clearance_of s).0) (is_at_most b (clearance_of s).0) (at_most-trans a b (clearance_of s).0 is)
        where
          up : (x y : Bool) → (y ≡ true → x ≡ true) → x ≡ (x || y)
          up x y f = grind arith
      by_order false is = up (is_at_most a (clearance_of s).0) (is_at_most b (clearance_of s).0) (at_most-trans b a (clearance_of s).0 (other a b is))
        where
          up : (x y : Bool) → (x ≡ true → y ≡ true) → y ≡ (x || y)
          up x y f = grind arith

          other : (a b : Handling) → is_at_most a b ≡ false → is_at_most b a ≡ true
          other a b h = grind (arith, nat_tests)

  cleared-least : (a : Option Handling) (hs : List (Option Handling)) → is_cleared s (least_from a hs) ≡ (is_cleared s a || list_any (is_cleared s) hs)
  cleared-least a [] = grind arith
  cleared-least a (b ∷ hs) = cleared-least (lesser a b) hs ∙ ap (λ x. x || list_any (is_cleared s) hs) (cleared-lesser a b) ∙ or_assoc (is_cleared s a) (is_cleared s b) (list_any (is_cleared s) hs)

  -- the others, and `default` if it is there
  cleared-any : (hs : List (Option Handling)) →
      list_any (cleared_for s) hs ≡ (list_any (is_cleared s) hs || (list_any is_none hs && cleared_for s None))
  cleared-any [] = refl
  cleared-any (None ∷ hs) = first (cleared_for s None) (list_any (cleared_for s) hs) (list_any (is_cleared s) hs) (list_any is_none hs) (cleared-any hs)
    where
      first : (a g w n : Bool) → g ≡ (w || (n && a)) → (a || g) ≡ (w || a)
      first a g w n h = grind arith
  cleared-any (Some h ∷ hs) = later (is_at_most h (clearance_of s).0) (cleared_for s None) (list_any (cleared_for s) hs) (list_any (is_cleared s) hs) (list_any is_none hs) (cleared-any hs)
    where
      later : (b a g w n : Bool) → g ≡ (w || (n && a)) → (b || g) ≡ ((b || w) || (n && a))
      later b a g w n h = grind arith

  arranged-cleared : (n : Bool) → is_cleared s (cond n (Some (handling_for s by_arrangement)) None) ≡ (n && cleared_for s None)
  arranged-cleared true = refl
  arranged-cleared false = refl

  least-cleared : (hs : List (Option Handling)) → is_cleared s (reader_least (list_any is_none hs) (least_of hs) s) ≡ list_any (cleared_for s) hs
  least-cleared hs =
      let arranged = cond (list_any is_none hs) (Some (handling_for s by_arrangement)) None in
      cleared-lesser (least_of hs) arranged
      ∙ ap (λ b. b || is_cleared s arranged) (cleared-least None hs)
      ∙ ap (λ b. list_any (is_cleared s) hs || b) (arranged-cleared (list_any is_none hs))
      ∙ sym (cleared-any hs)

-- ---- classes and their paths

class-any : (F : Tokens → Bool) (es : List LocatedLine) → list_any (λ (e : LocatedLine). is_class e && F e.path) es ≡ list_any F (class_paths es)
class-any F [] = refl
class-any F (e ∷ es) = step (is_class e) (class-any F es)
  where
    step : (b : Bool) → list_any (λ (x : LocatedLine). is_class x && F x.path) es ≡ list_any F (class_paths es) →
        ((b && F e.path) || list_any (λ (x : LocatedLine). is_class x && F x.path) es) ≡ list_any F (map (λ (x : LocatedLine). x.path) (cond b (e ∷ filter is_class es) (filter is_class es)))
    step true later = ap (λ x. F e.path || x) later
    step false later = later

-- whether a line is that of a class for which the reader is cleared
abbrev is_cleared_class : List Line → Standing → LocatedLine → Bool
is_cleared_class ls s e = is_class e && is_cleared_for s (label_at (located ls) e.path)

-- the reader is cleared for some class exactly if it is cleared for the least handling
pub some-cleared : (ls : List Line) (s : Standing) → list_any (is_cleared_class ls s) (located ls) ≡ is_cleared s (least_for ls s)
some-cleared ls s =
    let es = located ls in
    class-any (λ p. is_cleared_for s (label_at es p)) es
    ∙ any_same (λ p. is_cleared_for s (label_at es p)) (λ p. cleared_for s (fixed_handling (label_at es p))) (λ p. label-cleared s (label_at es p)) (class_paths es)
    ∙ sym (any_map (cleared_for s) (λ p. fixed_handling (label_at es p)) (class_paths es))
    ∙ sym (least-cleared s (handlings ls))

-- ---- what is shown

pub source-shown : (ls : List Line) (c : Case) (s : Standing) → s.source ≡ true → is_listed ls c s ≡ has_some_class ls
source-shown ls c s is =
    any_same (is_seen_class ls c s) is_class
    (λ e. ap (λ b. is_class e && (b || (is_none (refusal_at c s e.path) && (is_cleared_for s (label_at (located ls) e.path) || is_covered (located ls) c s e.path)))) is ∙ and-true (is_class e)) (located ls)

pub shut-hides : (ls : List Line) (c : Case) (s : Standing) → s.source ≡ false → (reach_of c.gates c.permissions s).shut ≡ true → is_listed ls c s ≡ false
shut-hides ls c s other shut =
    let found = Any-from_list_any (is_shutting s) c.gates shut in
    let g = found.1 in
    let two = and_parts (is_root g.path) (is_refusing s g) found.4 in
    (root-tells-nothing ls c s g other (found.0, found.2, found.3) two.0 two.1).met None None

only-cleared : (a s r k v : Bool) → s ≡ false → v ≡ false → (a && (s || (r && (k || v)))) ≡ true → (a && k) ≡ true
only-cleared a s r k v other none h = grind arith

none-covered : (es : List LocatedLine) (c : Case) (s : Standing) (p : Tokens) → (reach_of c.gates c.permissions s).permitted ≡ false → is_covered es c s p ≡ false
none-covered es c s p none =
    is_false (is_covered es c s p) (λ h. false≢true (sym none ∙ any-weaker (covers es s p) (holds_for s) (λ x k. (and_parts (holds_for s x) (reaches es x.path p) k).0) c.permissions h))

-- a reader who isn't of the source, and for whom no permission holds, is cleared for each class that is visible
pub visible-cleared : (ls : List Line) (c : Case) (s : Standing) → s.source ≡ false → (reach_of c.gates c.permissions s).permitted ≡ false → (p : Tokens) →
    is_visible (located ls) c s p ≡ true → cleared_for s (handling_at (located ls) p) ≡ true
visible-cleared ls c s other none p seen =
    let es = located ls in
    sym (label-cleared s (label_at es p))
    ∙ only-cleared true s.source (is_none (refusal_at c s p)) (is_cleared_for s (label_at es p)) (is_covered es c s p) other (none-covered es c s p none) seen

pub above-hides : (ls : List Line) (c : Case) (s : Standing) → s.source ≡ false → is_cleared s (least_for ls s) ≡ false → (reach_of c.gates c.permissions s).permitted ≡ false → is_listed ls c s ≡ false
above-hides ls c s other above none =
    let es = located ls in
    is_false (is_listed ls c s) (λ h. false≢true (sym above ∙ sym (some-cleared ls s)
    ∙ any-weaker (is_seen_class ls c s) (is_cleared_class ls s)
    (λ e k. only-cleared (is_class e) s.source (is_none (refusal_at c s e.path)) (is_cleared_for s (label_at es e.path)) (is_covered es c s e.path) other (none-covered es c s e.path none) k) es h))

shown : (a s r k v : Bool) → r ≡ true → (a && k) ≡ true → (a && (s || (r && (k || v)))) ≡ true
shown a s r k v passed h = grind arith

pub within-shows : (ls : List Line) (c : Case) (s : Standing) → is_cleared s (least_for ls s) ≡ true → (reach_of c.gates c.permissions s).refused ≡ false → is_listed ls c s ≡ true
within-shows ls c s within none =
    let es = located ls in
    any-weaker (is_cleared_class ls s) (is_seen_class ls c s)
    (λ e k. shown (is_class e) s.source (is_none (refusal_at c s e.path)) (is_cleared_for s (label_at es e.path)) (is_covered es c s e.path) (ap is_none (unrefused c s e.path none)) k) es
    (some-cleared ls s ∙ within)

-- without a class nothing is shown
pub no-class-shown : (ls : List Line) (c : Case) (s : Standing) → has_some_class ls ≡ false → is_listed ls c s ≡ false
no-class-shown ls c s none =
    is_false (is_listed ls c s) (λ h. false≢true (sym none ∙ any-weaker (is_seen_class ls c s) is_class (λ e k. (and_parts (is_class e) (is_visible (located ls) c s e.path) k).0) (located ls) h))
