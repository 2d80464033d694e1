-- The label of each visible class survives in the excerpt of the lines that matter.
use Rattle.std.proofs.Common.{◌≡◌, Bool, true, false, not, List, [], ◌∷◌, refl, sym, ◌∙◌, ap, subst, if◌then◌else◌, ◌&&◌, ◌⊎◌, inl, inr}
use Rattle.std.{proofs.lemmas.Bool.{false≢true, and_parts, and_from, false_from_ne_true}, specs.{List.AllByRecursion, Prelude.{filter, option_map, Some}}}
use Rattle.{std.specs.Prelude.Contains, iodef_tree.{proofs.Blocks.below-parents, specs.{Paths.{LocatedLine, is_class, located}, Text.is_under}}}
use Rattle.{iodef_tree.specs.declared.line.Line.Line, marking.specs.Marks.label_at, policy.specs.{Verdict.is_visible, declared.case.Case.Case}}
use Rattle.{policy.specs.declared.standing.Standing.Standing, redact.proofs.{DecidedAlike.{label-same, under-prefix}, InOrder.{In, in_contained, contains_in}}}
use Rattle.redact.proofs.{Matters.{es', agree, decides, off, places-same, same_located}, Paired.places-paired, Refused.{passed-above, refused-unseen}}
use Rattle.redact.specs.{Excerpts.LabelsSurvive, Matters.{is_refused, matters, lines_that_matter}, Told.{verdicts_of, is_seen_class, excerpt_place}}
use Rattle.redact.specs.{Withheld.place_of, inner.Paired.place_by}

in-filter : {X : Type 0} (f : X → Bool) (xs : List X) (x : X) → f x ≡ true → In xs x → In (filter f xs) x
in-filter f [] x k h = h
in-filter f (y ∷ ys) x k h = by_test (f y) refl h (λ i. in-filter f ys x k i)
  where
    by_test : (t : Bool) → f y ≡ t → (y ≡ x) ⊎ In ys x → (In ys x → In (filter f ys) x) → In (if t then y ∷ filter f ys else filter f ys) x
    by_test true e (inl same) ih = inl same
    by_test true e (inr i) ih = inr (ih i)
    by_test false e (inl same) ih = absurd (false≢true (sym e ∙ ap f same ∙ k))
    by_test false e (inr i) ih = ih i

all-in : {X : Type 0} (P : X → Type 0) (xs : List X) (x : X) → AllByRecursion P xs → In xs x → P x
all-in P [] x a h = absurd h
all-in P (y ∷ ys) x a (inl same) = subst P same a.0
all-in P (y ∷ ys) x a (inr i) = all-in P ys x a.1 i

module _ (ls : List Line) (c : Case) (s : Standing) (excerpt : List Line) (h : LabelsSurvive (lines_that_matter c s ls) c s excerpt) where
  module _ (e : LocatedLine) (there : Contains (located ls) e) (seen : is_seen_class ls c s e ≡ true) where
    sees : is_visible (located ls) c s e.path ≡ true
    sees = (and_parts (is_class e) (is_visible (located ls) c s e.path) seen).1

    passed : is_refused c s e.path ≡ false
    passed = false_from_ne_true (is_refused c s e.path) (λ t. false≢true (sym (refused-unseen c s (located ls) e.path t) ∙ sees))

    stays : matters c s e ≡ true
    stays =
        let under : is_under e.parent e.path ≡ true = all-in (λ x. is_under x.parent x.path ≡ true) (located ls) e (below-parents ls) (in_contained (located ls) e there) in
        ap not (passed-above c s e.parent e.path (under-prefix e.parent e.path under) passed)

    there' : Contains (located (lines_that_matter c s ls)) e
    there' = subst (λ xs. Contains xs e) (sym (same_located ls c s))
        (contains_in (filter (matters c s) (located ls)) e (in-filter (matters c s) (located ls) e stays (in_contained (located ls) e there)))

    seen' : is_seen_class (lines_that_matter c s ls) c s e ≡ true
    seen' =
        ap (λ xs. is_class e && is_visible xs c s e.path) (same_located ls c s)
        ∙ and_from (is_class e) (is_visible (es' ls c s) c s e.path) (and_parts (is_class e) (is_visible (located ls) c s e.path) seen).0
        (sym ((agree ls c s).visible e.path (ap not passed)) ∙ sees)

    place : excerpt_place ls c s e.path ≡ excerpt_place (lines_that_matter c s ls) c s e.path
    place =
        places-paired (verdicts_of (located ls) c s) (located ls) e.path
        ∙ ap (λ ps. place_by ps e.path) (places-same ls c s)
        ∙ sym (places-paired (verdicts_of (es' ls c s) c s) (es' ls c s) e.path)
        ∙ sym (ap (λ xs. place_of (verdicts_of xs c s) xs e.path) (same_located ls c s))

    label : label_at (located ls) e.path ≡ label_at (located (lines_that_matter c s ls)) e.path
    label = label-same (off ls c s) (located ls) (es' ls c s) (decides ls c s).reads e.path (ap not passed) ∙ sym (ap (λ xs. label_at xs e.path) (same_located ls c s))

    survives : option_map (label_at (located excerpt)) (excerpt_place ls c s e.path) ≡ Some (label_at (located ls) e.path)
    survives = ap (option_map (label_at (located excerpt))) place ∙ h e there' seen' ∙ ap Some (sym label)

  pub labels-of-all : LabelsSurvive ls c s excerpt
  labels-of-all e there seen = survives e there seen
