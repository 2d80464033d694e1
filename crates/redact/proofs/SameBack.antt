-- Earlier lines that stay, the newest first, have the paths that they have among all lines.
use Rattle.std.{proofs.Common.{◌≡◌, Bool, true, false, not, List, [], ◌∷◌, refl, ◌∙◌, ap, map, if◌then◌else◌}, specs.Prelude.filter}
use Rattle.iodef_tree.specs.{Paths.{LocatedLine, placed, located_after, located}, Text.{Tokens, is_prefix}, declared.line.Line.Line}
use Rattle.redact.{proofs.SameLocated.{IsPlaced, placed-kept}, specs.Sifted.located_onto}

placed-onto : (ls : List Line) (before : List LocatedLine) → IsPlaced before → IsPlaced (located_onto before ls)
placed-onto [] before b = b
placed-onto (l ∷ ls) before b = placed-onto ls (placed before l ∷ before) (refl, b)

module _ (gone : Tokens → Bool) (root : gone [] ≡ false) (up : (q p : Tokens) → is_prefix q p ≡ true → gone p ≡ false → gone q ≡ false) where
  abbrev keep : LocatedLine → Bool
  keep e = not (gone e.parent)

  onto-after : (ls : List Line) (before : List LocatedLine) → IsPlaced before →
      located_onto (filter keep before) (map (λ e. e.line) (filter keep (located_after before ls))) ≡ filter keep (located_onto before ls)
  onto-after [] before b = refl
  onto-after (l ∷ ls) before b = by_test (keep (placed before l)) refl (onto-after ls (placed before l ∷ before) (refl, b))
    where
      e : LocatedLine
      e = placed before l

      R : List LocatedLine
      R = filter keep (located_after (e ∷ before) ls)

      by_test : (t : Bool) → keep e ≡ t → located_onto (if t then e ∷ filter keep before else filter keep before) (map (λ x. x.line) R) ≡ filter keep (located_onto (e ∷ before) ls) →
          located_onto (filter keep before) (map (λ x. x.line) (if t then e ∷ R else R)) ≡ filter keep (located_onto (e ∷ before) ls)
      by_test true k ih = ap (λ x. located_onto (x ∷ filter keep before) (map (λ y. y.line) R)) (placed-kept gone root up before l b k) ∙ ih
      by_test false k ih = ih

  pub back-kept : (ls : List Line) → located_onto [] (map (λ e. e.line) (filter keep (located ls))) ≡ filter keep (located_onto [] ls)
  back-kept ls = onto-after ls [] tt

  -- a line that stays has the path that it has among all
  pub placed-back : (ls : List Line) (l : Line) → keep (placed (located_onto [] ls) l) ≡ true →
      placed (located_onto [] (map (λ e. e.line) (filter keep (located ls)))) l ≡ placed (located_onto [] ls) l
  placed-back ls l k = ap (λ b. placed b l) (back-kept ls) ∙ placed-kept gone root up (located_onto [] ls) l (placed-onto ls [] tt) k
