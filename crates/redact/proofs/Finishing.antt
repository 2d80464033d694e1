-- What the lines that a pass kept say of all lines that it was fed.
use Rattle.std.{proofs.{Common.{◌≡◌, true, false, not, List, refl, sym, ◌∙◌, ap, subst}, lemmas.Bool.{false≢true, true≢false}}, specs.Prelude.{Option, Some}}
use Rattle.{std.specs.Prelude.{None, is_some, IfSome}, iodef_tree.{proofs.Outlines.outline-back, specs.{Outline.is_outline, Paths.located, Text.Tokens}}}
use Rattle.{iodef_tree.specs.declared.{line.Line.Line, shape.Shape.Shape}, marking.specs.Marks.first_bad_marking, policy.specs.declared.case.Case.Case}
use Rattle.{policy.specs.declared.standing.Standing.Standing, redact.proofs.{MarkedTree.accepted-outline, Matters.excerpt-same, MattersLabels.labels-of-all}}
use Rattle.redact.{proofs.{MattersMarked.well-marked, Sifting.sifts-outline}, specs.{Excerpts.LabelsSurvive, Marked.{marks_of, is_accepted}, Sifted.Knows}}
use Rattle.redact.specs.{Told.excerpt_of, declared.{excerpts.Excerpt.Excerpt, marks.Marks.Marks, sieve.Sieve.Sieve}}

none-of : (o : Option Tokens) → not (is_some o) ≡ true → o ≡ None
none-of None h = refl
none-of (Some t) h = absurd (false≢true h)

some-of : (o : Option Tokens) → not (is_some o) ≡ false → is_some o ≡ true
some-of None h = absurd (true≢false h)
some-of (Some t) h = refl

module _ (c : Case) (s : Standing) (ls : List Line) (shape : Shape) (marks : Marks) (v : Sieve) (k : Knows c s ls shape marks v) where
  outline : is_outline ls ≡ true
  outline = sym (outline-back ls) ∙ k.shows.outline

  accepted : is_accepted (marks_of marks) ≡ not (is_some (first_bad_marking (located ls)))
  accepted = ap is_accepted k.marked ∙ accepted-outline ls outline

  pub accepted-none : is_accepted (marks_of marks) ≡ true → first_bad_marking (located ls) ≡ None
  accepted-none h = none-of (first_bad_marking (located ls)) (sym accepted ∙ h)

  pub refused-some : is_accepted (marks_of marks) ≡ false → is_some (first_bad_marking (located ls)) ≡ true
  refused-some h = some-of (first_bad_marking (located ls)) (sym accepted ∙ h)

  pub kept-outline : is_outline v.lines.items ≡ true
  kept-outline = sifts-outline c s ls v k.sifts

  pub kept-marked : is_accepted (marks_of marks) ≡ true → first_bad_marking (located v.lines.items) ≡ None
  kept-marked h = ap (λ xs. first_bad_marking (located xs)) k.sifts.lines ∙ well-marked ls c s (accepted-none h)

  pub told-all : excerpt_of v.lines.items c s ≡ excerpt_of ls c s
  told-all = ap (λ xs. excerpt_of xs c s) k.sifts.lines ∙ sym (excerpt-same ls c s)

  pub labels-all : (excerpt : List Line) → LabelsSurvive v.lines.items c s excerpt → LabelsSurvive ls c s excerpt
  labels-all excerpt h = labels-of-all ls c s excerpt (subst (λ xs. LabelsSurvive xs c s excerpt) k.sifts.lines h)

  pub labels-served : (r : Option Excerpt) → IfSome r (λ e. LabelsSurvive v.lines.items c s e.document) → IfSome r (λ e. LabelsSurvive ls c s e.document)
  labels-served None h = tt
  labels-served (Some e) h = labels-all e.document h
