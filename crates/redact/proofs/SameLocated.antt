-- If the lines below some paths are taken out, with all that is below them, the other lines keep their paths.
use Rattle.std.proofs.Common.{◌≡◌, ℕ, ◌+◌, ◌==◌, Bool, true, false, cond, not, List, [], ◌∷◌, ◌++◌, refl, sym, ◌∙◌, ap, map, take, zero-add, arith}
use Rattle.std.proofs.{Common.if◌then◌else◌, lemmas.{Bool.{true≢false, and_parts, not-true, eqb-true, false_from_ne_true}, Grind.common_steps}}
use Rattle.std.{proofs.lemmas.List.Sums.sum_by-cons, specs.{List.{before_first, prefix_len}, Option.option_map_or, Prelude.{Some, filter, find, count_by}}}
use Rattle.iodef_tree.{proofs.Order.is_prefix-append, specs.Paths.{LocatedLine, is_one_less_deep, parent_path, is_like, place_among, entry_at, placed}}
use Rattle.iodef_tree.specs.{Paths.{located_after, located}, Text.{Bytes, Tokens, is_prefix}, Tree.{steps, place_of}, declared.line.Line.Line}

before-here : {X : Type 0} (p : X → Bool) (x : X) (xs : List X) → p x ≡ true → before_first p (x ∷ xs) ≡ []
before-here {X} p x xs h = ap (λ b. take (cond (not b) (1 + prefix_len (λ y. not (p y)) xs) 0) (x ∷ xs)) h

pub place-past : (x : LocatedLine) (before : List LocatedLine) (d : ℕ) (name : Bytes) → is_one_less_deep d x ≡ false →
    place_among (x ∷ before) d name ≡ cond (is_like d name x) 1 0 + place_among before d name
place-past x before d name h = grind (arith, common_steps, sum_by-cons)

pub place-here : (x : LocatedLine) (before : List LocatedLine) (d : ℕ) (name : Bytes) → is_one_less_deep d x ≡ true → place_among (x ∷ before) d name ≡ 0
place-here x before d name h = ap (count_by (is_like d name)) (before-here (is_one_less_deep d) x before h)

-- each line has the path that the lines before it give it
abbrev pub IsPlaced : List LocatedLine → Type 0
IsPlaced [] = Unit {0}
IsPlaced (x ∷ before) = (x ≡ placed before x.line) × IsPlaced before

-- the path of a line begins with that of its parent
below-parent : (x : LocatedLine) (before : List LocatedLine) → x ≡ placed before x.line → is_prefix x.parent x.path ≡ true
below-parent x before is =
    let st = steps x.line.name (place_of x.line.in_array (place_among before x.line.depth x.line.name)) in
    ap (is_prefix x.parent) (ap (λ e. e.path) is ∙ ap (λ p. p ++ st) (sym (ap (λ e. e.parent) is))) ∙ is_prefix-append x.parent st

module _ (gone : Tokens → Bool) (root : gone [] ≡ false) (up : (q p : Tokens) → is_prefix q p ≡ true → gone p ≡ false → gone q ≡ false) where
  abbrev keep : LocatedLine → Bool
  keep e = not (gone e.parent)

  keep-above : (x : LocatedLine) (before : List LocatedLine) → x ≡ placed before x.line → gone x.path ≡ false → keep x ≡ true
  keep-above x before is h = ap not (up x.parent x.path (below-parent x before is) h)

  find-kept : (before : List LocatedLine) (d : ℕ) → IsPlaced before → gone (parent_path before d) ≡ false →
      find (is_one_less_deep d) (filter keep before) ≡ find (is_one_less_deep d) before
  find-kept [] d b h = refl
  find-kept (x ∷ before) d b h = by_test (is_one_less_deep d x) refl h (λ k. find-kept before d b.1 k)
    where
      F : List LocatedLine
      F = filter keep before

      by_test : (t : Bool) → is_one_less_deep d x ≡ t → gone (option_map_or (λ e. e.path) (cond t (Some x) (find (is_one_less_deep d) before)) []) ≡ false →
          (gone (parent_path before d) ≡ false → find (is_one_less_deep d) F ≡ find (is_one_less_deep d) before) →
          find (is_one_less_deep d) (if keep x then x ∷ F else F) ≡ cond t (Some x) (find (is_one_less_deep d) before)
      by_test true e h ih =
          ap (λ k. find (is_one_less_deep d) (if k then x ∷ F else F)) (keep-above x before b.0 h) ∙ ap (λ t. cond t (Some x) (find (is_one_less_deep d) F)) e
      by_test false e h ih = by_keep (keep x)
        where
          by_keep : (k : Bool) → find (is_one_less_deep d) (if k then x ∷ F else F) ≡ find (is_one_less_deep d) before
          by_keep true = ap (λ t. cond t (Some x) (find (is_one_less_deep d) F)) e ∙ ih h
          by_keep false = ih h

  count-kept : (before : List LocatedLine) (d : ℕ) (name : Bytes) → IsPlaced before → gone (parent_path before d) ≡ false →
      place_among (filter keep before) d name ≡ place_among before d name
  count-kept [] d name b h = refl
  count-kept (x ∷ before) d name b h = by_test (is_one_less_deep d x) refl h (λ k. count-kept before d name b.1 k)
    where
      F : List LocatedLine
      F = filter keep before

      by_test : (t : Bool) → is_one_less_deep d x ≡ t → gone (option_map_or (λ e. e.path) (cond t (Some x) (find (is_one_less_deep d) before)) []) ≡ false →
          (gone (parent_path before d) ≡ false → place_among F d name ≡ place_among before d name) →
          place_among (if keep x then x ∷ F else F) d name ≡ place_among (x ∷ before) d name
      by_test true e h ih =
          ap (λ k. place_among (if k then x ∷ F else F) d name) (keep-above x before b.0 h)
          ∙ place-here x F d name e
          ∙ sym (place-here x before d name e)
      by_test false e h ih = by_keep (keep x) refl
        where
          same : place_among F d name ≡ place_among before d name
          same = ih h

          -- a line that is taken out is in another class
          other : keep x ≡ false → is_like d name x ≡ false
          other k = false_from_ne_true (is_like d name x) (λ t.
              let deep = eqb-true x.line.depth d (and_parts (x.line.depth == d) _ t).0 in
              let parent : x.parent ≡ parent_path before d = ap (λ y. y.parent) b.0 ∙ ap (parent_path before) deep in
              true≢false (sym (ap not (ap gone parent ∙ h)) ∙ k))

          by_keep : (k : Bool) → keep x ≡ k → place_among (if k then x ∷ F else F) d name ≡ place_among (x ∷ before) d name
          by_keep true k = place-past x F d name e ∙ ap (λ n. cond (is_like d name x) 1 0 + n) same ∙ sym (place-past x before d name e)
          by_keep false k =
              same
              ∙ sym (zero-add (place_among before d name))
              ∙ sym (ap (λ t. cond t 1 0 + place_among before d name) (other k))
              ∙ sym (place-past x before d name e)

  pub placed-kept : (before : List LocatedLine) (l : Line) → IsPlaced before → keep (placed before l) ≡ true → placed (filter keep before) l ≡ placed before l
  placed-kept before l b k =
      let h = not-true (gone (parent_path before l.depth)) k in
      ap (λ o. entry_at (option_map_or (λ e. e.path) o []) (place_of l.in_array (place_among (filter keep before) l.depth l.name)) l) (find-kept before l.depth b h)
      ∙ ap (λ n. entry_at (parent_path before l.depth) (place_of l.in_array n) l) (count-kept before l.depth l.name b h)

  located-after : (ls : List Line) (before : List LocatedLine) → IsPlaced before →
      located_after (filter keep before) (map (λ e. e.line) (filter keep (located_after before ls))) ≡ filter keep (located_after before ls)
  located-after [] before b = refl
  located-after (l ∷ ls) before b = by_test (keep (placed before l)) refl (located-after ls (placed before l ∷ before) (refl, b))
    where
      e : LocatedLine
      e = placed before l

      R : List LocatedLine
      R = filter keep (located_after (e ∷ before) ls)

      by_test : (t : Bool) → keep e ≡ t → located_after (if t then e ∷ filter keep before else filter keep before) (map (λ x. x.line) R) ≡ R →
          located_after (filter keep before) (map (λ x. x.line) (if t then e ∷ R else R)) ≡ (if t then e ∷ R else R)
      by_test true k ih = ap (λ x. x ∷ located_after (x ∷ filter keep before) (map (λ y. y.line) R)) (placed-kept before l b k) ∙ ap (λ xs. e ∷ xs) ih
      by_test false k ih = ih

  pub located-kept : (ls : List Line) → located (map (λ e. e.line) (filter keep (located ls))) ≡ filter keep (located ls)
  located-kept ls = located-after ls [] tt
