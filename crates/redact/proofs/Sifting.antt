-- One more line, which is kept if it matters.
use Rattle.std.proofs.Common.{◌≡◌, ℕ, Bool, true, false, List, [], ◌∷◌, ◌++◌, refl, sym, ◌∙◌, ap, subst, append-nil, map, arith, if◌then◌else◌}
use Rattle.std.{proofs.lemmas.{Bool.not-true, List.{map-append, Elements.filter-append}}, specs.Prelude.{filter, None}}
use Rattle.iodef_tree.{proofs.Outlines.outline-back, specs.{Outline.{back, back_onto, may_come, is_outline, is_outline_back}, Paths.{LocatedLine, parent_path}}}
use Rattle.{iodef_tree.specs.{Paths.{placed, located_after, located}, declared.line.Line.Line}, policy.specs.declared.case.Case.Case}
use Rattle.{policy.specs.declared.standing.Standing.Standing, redact.proofs.Reached.{reach-kept, reach-gone, kept-is, gone-is, fits-kept}}
use Rattle.redact.{proofs.{Refused.{refused-prefix, passed-above}, SameBack.{back-kept, placed-back}}, specs.Matters.{is_refused, matters, lines_that_matter}}
use Rattle.redact.specs.Sifted.{located_onto, located_back, is_beyond, shut_by, lines_of, stays, is_shutting, Reach, Tracks, Sifts}
use Rattle.redact.specs.declared.sieve.Sieve.{Sieve}

-- ---- lists of located lines

pub onto-push : (ls : List Line) (l : Line) (before : List LocatedLine) → located_onto before (ls ++ l ∷ []) ≡ placed (located_onto before ls) l ∷ located_onto before ls
onto-push [] l before = refl
onto-push (x ∷ ls) l before = onto-push ls l (placed before x ∷ before)

after-push : (ls : List Line) (l : Line) (before : List LocatedLine) → located_after before (ls ++ l ∷ []) ≡ located_after before ls ++ placed (located_onto before ls) l ∷ []
after-push [] l before = refl
after-push (x ∷ ls) l before = ap (λ es. placed before x ∷ es) (after-push ls l (placed before x ∷ before))

onto-lines : (ls : List Line) (before : List LocatedLine) → lines_of (located_onto before ls) ≡ back_onto ls (lines_of before)
onto-lines [] before = refl
onto-lines (l ∷ ls) before = onto-lines ls (placed before l ∷ before)

pub back-lines : (ls : List Line) → lines_of (located_back ls) ≡ back ls
back-lines ls = onto-lines ls []

-- the lines that pass a test, the newest first
kept-back : (f : LocatedLine → Bool) (ls : List Line) (before : List LocatedLine) →
    lines_of (filter f (located_onto before ls)) ≡ back_onto (lines_of (filter f (located_after before ls))) (lines_of (filter f before))
kept-back f [] before = refl
kept-back f (l ∷ ls) before = kept-back f ls (placed before l ∷ before) ∙ by_test (f (placed before l))
  where
    R : List Line
    R = lines_of (filter f (located_after (placed before l ∷ before) ls))

    by_test : (t : Bool) → back_onto R (lines_of (if t then placed before l ∷ filter f before else filter f before))
        ≡ back_onto (lines_of (if t then placed before l ∷ filter f (located_after (placed before l ∷ before) ls) else filter f (located_after (placed before l ∷ before) ls))) (lines_of (filter f before))
    by_test true = refl
    by_test false = refl

module _ (c : Case) (s : Standing) (ls : List Line) (l : Line) where
  abbrev e : LocatedLine
  e = placed (located_back ls) l

  more : (t : Bool) → matters c s e ≡ t → lines_that_matter c s (ls ++ l ∷ []) ≡ lines_that_matter c s ls ++ (if t then l ∷ [] else [])
  more t k =
      ap (λ es. map (λ x. x.line) (filter (matters c s) es)) (after-push ls l [])
      ∙ ap (map (λ x. x.line)) (filter-append (matters c s) (located ls) (e ∷ []))
      ∙ map-append (λ x. x.line) (filter (matters c s) (located ls)) (filter (matters c s) (e ∷ []))
      ∙ ap (λ b. lines_that_matter c s ls ++ map (λ x. x.line) (if b then e ∷ [] else [])) k
      ∙ ap (λ xs. lines_that_matter c s ls ++ xs) (by_value t)
    where
      by_value : (t : Bool) → map (λ x. x.line) (if t then e ∷ [] else []) ≡ (if t then l ∷ [] else [])
      by_value true = refl
      by_value false = refl

  module _ (old new : Sieve) (h : Sifts c s ls old) (fits : may_come (back ls) l ≡ true) where
    fits-located : may_come (lines_of (located_back ls)) l ≡ true
    fits-located = ap (λ b. may_come b l) (back-lines ls) ∙ fits

    -- a line that is dropped
    pub sifts-gone : is_beyond old.shut l.depth ≡ true → new ≡ old → Sifts c s (ls ++ l ∷ []) new
    sifts-gone goes same = subst (λ v. Sifts c s (ls ++ l ∷ []) v) (sym same) (record {
      lines = h.lines ∙ sym (more false (gone-is (is_refused c s) (refused-prefix c s) (located_back ls) old.shut l h.reach fits-located goes) ∙ append-nil (lines_that_matter c s ls));
      reach = reach-gone (is_refused c s) (refused-prefix c s) (located_back ls) old.shut l h.reach fits-located goes (located_back (ls ++ l ∷ [])) (onto-push ls l []);
      tracks = h.tracks;
    })

    -- a kept line has the same path behind the lines that matter as behind all
    module _ (kept : is_beyond old.shut l.depth ≡ false) where
      located-kept : located_back old.lines.items ≡ filter (stays (is_refused c s)) (located_back ls)
      located-kept = ap located_back h.lines ∙ back-kept (is_refused c s) refl (passed-above c s) ls

      pub fits-among : may_come (back old.lines.items) l ≡ true
      fits-among =
          ap (λ b. may_come b l) (sym (back-lines old.lines.items) ∙ ap lines_of located-kept)
          ∙ fits-kept (is_refused c s) (refused-prefix c s) (located_back ls) old.shut l h.reach fits-located kept

      pub placed-among : placed (located_back old.lines.items) l ≡ e
      placed-among =
          ap (λ xs. placed (located_back xs) l) h.lines
          ∙ placed-back (is_refused c s) refl (passed-above c s) ls l (kept-is (is_refused c s) (refused-prefix c s) (located_back ls) old.shut l h.reach fits-located kept)

      pub parent-among : is_refused c s (parent_path (located_back old.lines.items) l.depth) ≡ false
      parent-among =
          ap (λ x. is_refused c s x.parent) placed-among
          ∙ not-true (is_refused c s e.parent) (kept-is (is_refused c s) (refused-prefix c s) (located_back ls) old.shut l h.reach fits-located kept)

    -- a line that is kept
    pub sifts-kept : is_beyond old.shut l.depth ≡ false → new.lines.items ≡ old.lines.items ++ l ∷ [] → new.shut ≡ shut_by (is_shutting (is_refused c s) e) l.depth →
        Tracks (old.lines.items ++ l ∷ []) new.steps.items → Sifts c s (ls ++ l ∷ []) new
    sifts-kept kept lines shut tracks = record {
      lines = lines ∙ ap (λ xs. xs ++ l ∷ []) h.lines ∙ sym (more true (kept-is (is_refused c s) (refused-prefix c s) (located_back ls) old.shut l h.reach fits-located kept));
      reach = subst (λ o. Reach (is_refused c s) (located_back (ls ++ l ∷ [])) o) (sym shut)
          (reach-kept (is_refused c s) (refused-prefix c s) (located_back ls) old.shut l h.reach fits-located kept (located_back (ls ++ l ∷ [])) (onto-push ls l []));
      tracks = subst (λ xs. Tracks xs new.steps.items) (sym lines) tracks;
    }

-- the kept lines are an outline
pub sifts-outline : (c : Case) (s : Standing) (ls : List Line) (v : Sieve) → Sifts c s ls v → is_outline v.lines.items ≡ true
sifts-outline c s ls v h =
    ap is_outline h.lines ∙ sym (outline-back (lines_that_matter c s ls)) ∙ ap is_outline_back (sym (kept-back (matters c s) ls [])) ∙ h.reach.outline

-- the state before the first line
pub sifts-none : (c : Case) (s : Standing) (v : Sieve) → v.lines.items ≡ [] → v.shut ≡ None → Tracks [] v.steps.items → Sifts c s [] v
sifts-none c s v lines shut tracks = record {
  lines = lines;
  reach = subst (λ o. Reach (is_refused c s) [] o) (sym shut) (record {
    beyond = λ d h. parent-none d;
    deep = refl;
    siblings = λ d h b. refl;
    count = omega arith;
    outline = refl;
  });
  tracks = subst (λ xs. Tracks xs v.steps.items) (sym lines) tracks;
}
  where
    parent-none : (d : ℕ) → is_refused c s (parent_path [] d) ≡ false
    parent-none d = refl
