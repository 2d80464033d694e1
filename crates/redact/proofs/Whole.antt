-- The pass over a whole document: what it keeps, lists and counts is as the definitions say.
use Rattle.std.proofs.Common.{◌≡◌, ◌<◌, ◌^◌, ℕ, suc, ◌+◌, false, true, Bool, List, [], ◌∷◌, ◌++◌, refl, sym, ◌∙◌, ap, append-nil, append_assoc, arith, decimal}
use Rattle.{std.proofs.Common.{Option, Some, None, is_some, count_by}, iodef_tree.proofs.{Blocks.{blocks-located, below-parents}, Located.located-lines}}
use Rattle.iodef_tree.{proofs.Siblings.{siblings-all, walk-all}, specs.{Paths.{LocatedLine, has_class, located, below}, Sound.IsSound, Text.{Bytes, Tokens}}}
use Rattle.{iodef_tree.specs.{Text.same_path, Tree.{Forest, end, leaf, branch, steps, lines}, Walk.{walk, AreBlocks}}, marking.proofs.Bad.first_bad}
use Rattle.marking.{proofs.{Placed.{ArePlaced, no_class, placed as classes-placed}, Written.{AreUnderParents, written-block}}, specs.Label.LabelValue}
use Rattle.{marking.specs.{Marks.{first_bad_marking, written_label, label_at}, Members.spelled_in}, policy.proofs.Steps.{enter_class-at, enter_array-at}}
use Rattle.policy.{proofs.Steps.at_root-is, specs.{Inherited.{inherited_at, enter_class, at_root}, declared.{case.Case.Case, standing.Standing.Standing}}}
use Rattle.redact.proofs.{Counts.{within-cut, count-walk, few-seen}, InOrder.same_in_order, Keeping.{is_seen, any_seen, SaysBelow}, Ordered.trails-none}
use Rattle.redact.proofs.{Ordered.ordered-cut, Paired.pairs-paired, Places.{kept-lines, placed}, Spelling.{label-names, labels-fit}, Withheld.withheld-walk}
use Rattle.redact.specs.{Kept.{Verdicts, kept_lines}, Told.{verdicts_of, kept_outline, withheld_of, visible_count}, Withheld.{Withheld, is_among}}
use Rattle.redact.specs.{Withheld.{withheld_pairs, withheld_in_order}, inner.Judged.{Judged, plain, judge, root, cut, visible_classes, withheld_below}}
use Rattle.redact.specs.inner.{Paired.{place_by, class_places}, Pass.{enter, pass}}

-- ---- each class is judged as the definitions judge its path

module _ (es : List LocatedLine) (c : Case) (s : Standing) (under : AreUnderParents es) where
  pub enter-at : (p : Tokens) (name : Bytes) (place : Option ℕ) (w : Option LabelValue) → has_class es (p ++ steps name place) ≡ true →
      (is_some place ≡ true → has_class es (p ++ name ∷ []) ≡ false) → written_label es (p ++ steps name place) ≡ w →
      enter c s (inherited_at es c s p) name place w ≡ inherited_at es c s (p ++ steps name place)
  enter-at p name None w here bare is = enter_class-at es c s p name w here is
  enter-at p name (Some k) w here bare is =
      let two : (p ++ name ∷ []) ++ decimal k ∷ [] ≡ p ++ name ∷ decimal k ∷ [] = append_assoc p (name ∷ []) (decimal k ∷ []) in
      ap (λ h. enter_class c s h (decimal k) w) (enter_array-at es c s p name (bare refl))
      ∙ enter_class-at es c s (p ++ name ∷ []) (decimal k) w (ap (has_class es) two ∙ here) (ap (written_label es) two ∙ is)
      ∙ ap (inherited_at es c s) two

  pass-judge : (f : Forest) (d : ℕ) (p : Tokens) → AreBlocks es d p f → ArePlaced es p f →
      pass c s (inherited_at es c s p) f ≡ judge (verdicts_of es c s) p f
  pass-judge end d p blocks there = refl
  pass-judge (leaf i rest) d p blocks there = ap (plain i) (pass-judge rest d p blocks there)
  pass-judge (branch name place kids rest) d p blocks there =
      let q = p ++ steps name place in
      let written : written_label es q ≡ spelled_in kids = written-block es (suc d) q kids under blocks.0 there.0 in
      rw (enter-at p name place (spelled_in kids) there.0 there.1 written, ← written, pass-judge kids (suc d) q blocks.1 there.2, pass-judge rest d p blocks.2 there.3)

-- ---- what the verdicts say of the lines below a class

-- if they read all lines below a class, they read its members
says-below : (v : Verdicts) (es : List LocatedLine) → ((p : Tokens) → v.holds_visible p ≡ any_seen v (below p es)) →
    (f : Forest) (d : ℕ) (p : Tokens) → AreBlocks es d p f → SaysBelow v d p f
says-below v es looks end d p blocks = tt
says-below v es looks (leaf i rest) d p blocks = says-below v es looks rest d p blocks
says-below v es looks (branch name place kids rest) d p blocks =
    let q = p ++ steps name place in
    (looks q ∙ ap (any_seen v) blocks.0, says-below v es looks kids (suc d) q blocks.1, says-below v es looks rest d p blocks.2)

-- no line of a document has the root's path
pub root-bare : (f : Forest) → IsSound f → has_class (located (lines 1 f)) [] ≡ false
root-bare f sound =
    ap (λ es. has_class es []) (located-lines f sound)
    ∙ no_class (walk 1 [] f) [] (walk-all (λ p. same_path p [] ≡ false) f 1 [] (siblings-all (λ n o. (z : Tokens) → same_path (steps n o ++ z) [] ≡ false) f (λ n o z. grind arith)))

-- ---- a whole document

module _ (f : Forest) (c : Case) (s : Standing) (sound : IsSound f) (ok : first_bad_marking (located (lines 1 f)) ≡ None) where
  abbrev es : List LocatedLine
  es = located (lines 1 f)

  abbrev v : Verdicts
  v = verdicts_of (located (lines 1 f)) c s

  pub says : SaysBelow v 1 [] f
  says = says-below v es (λ p. refl) f 1 [] (blocks-located f sound)

  -- what the pass keeps is a document
  pub left-sound : IsSound (cut root 0 (judge v [] f))
  left-sound =
      let within = within-cut v (λ p. label-names (label_at es p)) f root [] 0 in
      let fit = labels-fit es c s (below-parents (lines 1 f)) f 1 [] (blocks-located f sound) (classes-placed f sound) (sym (first_bad f sound) ∙ ok) in
      record {
        ordered = ordered-cut v f root [] 0 None None sound.ordered fit trails-none;
        classes = omega (arith, within.classes, sound.classes);
        shallow = omega (arith, within.depth, sound.shallow, sound.classes);
        short = omega (arith, within.counts 1, sound.short);
        texts = within.texts sound.texts;
      }

  -- the kept outline is that of what the pass keeps
  pub left-lines : kept_outline (lines 1 f) c s ≡ lines 1 (cut root 0 (judge v [] f))
  left-lines = ap (kept_lines v) (located-lines f sound) ∙ kept-lines v f sound says left-sound

  -- the same of what the program's pass judges
  module _ (j : Judged) (is : j ≡ pass c s (at_root c s) f) where
    judged-is : j ≡ judge v [] f
    judged-is = is ∙ ap (λ h. pass c s h f) (at_root-is es c s (root-bare f sound)) ∙ pass-judge es c s (below-parents (lines 1 f)) f 1 [] (blocks-located f sound) (classes-placed f sound)

    pub excerpt-sound : IsSound (cut root 0 j)
    excerpt-sound = rw judged-is left-sound

    pub excerpt-lines : kept_outline (lines 1 f) c s ≡ lines 1 (cut root 0 j)
    excerpt-lines = rw judged-is left-lines

    -- what is withheld is what the pass lists, in order
    pub excerpt-told : (ws : List Withheld) (q : Tokens) → q ≡ [] → is_among (ws ++ []) ≡ is_among (withheld_below root q 0 j) →
        withheld_in_order ws ≡ withheld_of (lines 1 f) c s
    excerpt-told ws q at told_all =
        let all : List Withheld = withheld_pairs v es in
        let pairs : all ≡ withheld_below root [] 0 (judge v [] f) =
        ap (withheld_pairs v) (located-lines f sound)
        ∙ pairs-paired v (walk 1 [] f)
        ∙ withheld-walk v (place_by (class_places v (walk 1 [] f))) f 1 [] [] 0 says (placed v f sound says left-sound) refl refl in
        let same : withheld_below root q 0 j ≡ all = cc (at, judged-is, pairs) in
        same_in_order ws all (λ x. ap (λ (among : Withheld → Bool). among x) (ap is_among (sym (append-nil ws)) ∙ told_all ∙ ap is_among same))

    -- the visible classes are those that the pass counts, and they are few
    pub excerpt-count : (n : ℕ) → (0 + visible_classes j < 2 ^ 32 → n + 0 ≡ 0 + visible_classes j) → n ≡ visible_count (lines 1 f) c s
    excerpt-count n counts =
        let same = ap visible_classes judged-is in
        let all : visible_count (lines 1 f) c s ≡ visible_classes (judge v [] f) = ap (count_by (is_seen v)) (located-lines f sound) ∙ count-walk v f 1 [] in
        let few = few-seen v f 1 [] in
        let short = sound.short in
        omega (arith, counts (omega (arith, same, few, short)), same, all)
