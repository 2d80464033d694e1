-- One more line, and lines one after another.
use Rattle.std.proofs.{Common.{◌≡◌, true, false, ◌&&◌, List, [], ◌∷◌, ◌++◌, refl, sym, ◌∙◌, ap, subst}, Math.Bool.and-true, lemmas.Bool.and_parts}
use Rattle.iodef_tree.{proofs.Outlines.{outline-back, back-push, outline_after-append}, specs.Outline.{may_come, is_outline, is_outline_after, is_outline_back}}
use Rattle.{iodef_tree.specs.{Outline.back, Shown.Shows, declared.{line.Line.Line, shape.Shape.Shape}}, policy.specs.declared.case.Case.Case}
use Rattle.{policy.specs.declared.standing.Standing.Standing, redact.specs.Marked.{Markings, marks_of, none_noted, with_marked_line, with_marked_lines}}
use Rattle.redact.specs.{Sifted.{Sifts, Knows}, declared.{marks.Marks.Marks, sieve.Sieve.Sieve}}

-- lines that are an outline are one with a line more exactly if that may come
pub more-outline : (ls : List Line) (l : Line) → is_outline_back (back ls) ≡ true → is_outline (ls ++ l ∷ []) ≡ may_come (back ls) l
more-outline ls l h =
    sym (outline-back (ls ++ l ∷ [])) ∙ ap is_outline_back (back-push ls l) ∙ ap (λ b. may_come (back ls) l && b) h ∙ and-true (may_come (back ls) l)

-- each line of an outline may come behind those before it
pub fits-next : (ls done rest : List Line) (l : Line) → done ++ l ∷ rest ≡ ls → is_outline ls ≡ true → may_come (back done) l ≡ true
fits-next ls done rest l is h =
    let parts = and_parts (is_outline done) (may_come (back done) l && is_outline_after (l ∷ back done) rest) (sym (outline_after-append done (l ∷ rest) []) ∙ ap is_outline is ∙ h) in
    (and_parts (may_come (back done) l) (is_outline_after (l ∷ back done) rest) parts.1).0

noted-push : (ls : List Line) (l : Line) (m : Markings) → with_marked_lines m (ls ++ l ∷ []) ≡ with_marked_line (with_marked_lines m ls) l
noted-push [] l m = refl
noted-push (x ∷ ls) l m = noted-push ls l (with_marked_line m x)

-- what is known with one more line, if each part took it
module _ (c : Case) (s : Standing) (ls : List Line) (l : Line) (shape : Shape) (marks : Marks) (v : Sieve) (k : Knows c s ls shape marks v) where
  pub knows-more : (shape' : Shape) (marks' : Marks) (v' : Sieve) → may_come (back ls) l ≡ true → Shows shape' (l ∷ back ls) →
      marks_of marks' ≡ with_marked_line (marks_of marks) l → Sifts c s (ls ++ l ∷ []) v' →
      (is_outline (ls ++ l ∷ []) ≡ true) × Knows c s (ls ++ l ∷ []) shape' marks' v'
  knows-more shape' marks' v' fits shows marked sifts = (
    more-outline ls l k.shows.outline ∙ fits,
    record {
      shows = subst (λ before. Shows shape' before) (sym (back-push ls l)) shows;
      marked = marked ∙ ap (λ m. with_marked_line m l) k.marked ∙ sym (noted-push ls l none_noted);
      sifts = sifts;
    },
  )

  -- the line may not come
  pub knows-bad : may_come (back ls) l ≡ false → is_outline (ls ++ l ∷ []) ≡ false
  knows-bad bad = more-outline ls l k.shows.outline ∙ bad
