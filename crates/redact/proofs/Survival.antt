-- The markings of a document survive in its excerpt.
use Rattle.std.proofs.Common.{◌≡◌, ◌+◌, ◌≤◌, ℕ, suc, Bool, true, false, not, List, [], ◌∷◌, ◌++◌, refl, sym, ◌∙◌, ap, subst, map, filter, length, length-append}
use Rattle.std.proofs.{Common.{arith, if◌then◌else◌, ◌&&◌, Option, Some, None, is_none, unwrap_or, option_map, find, true≢false}, lemmas.Bool.cond_both}
use Rattle.std.proofs.lemmas.{Bool.{cond-false, cond-true, and_parts, or_right, or_left, false≢true}, List.Elements.{All-contains, All-from_recursion}}
use Rattle.{std.specs.{List.AllByRecursion, Option.option_or}, iodef_tree.proofs.{Apart.sound-apart, Blocks.{blocks-located, below-parents}}}
use Rattle.iodef_tree.{proofs.{ClassesBelow.classes-lines, Located.located-lines, Order.{same_path-true, is_false}, Siblings.all-append}, specs.Laws.HasApart}
use Rattle.iodef_tree.specs.{Paths.{LocatedLine, is_class, class_paths, located}, Sound.IsSound, Text.{Bytes, Tokens, same_path, is_root}, Tree.{Leaf, Forest}}
use Rattle.{iodef_tree.specs.{Tree.{end, leaf, branch, steps, lines}, Walk.AreBlocks}, marking.proofs.{Bad.first_bad, Marked.not_root, Owned.own-class}}
use Rattle.marking.proofs.{Placed.{ArePlaced, placed as classes-placed}, Sites.label-steps, Written.{AreUnderParents, written-block, well_marked-block}}
use Rattle.marking.{proofs.Written.own-none, specs.{Label.{LabelValue, private}, Marks.{incident_path, is_well_marked, first_bad_marking, written_label}}}
use Rattle.{marking.specs.{Marks.label_at, Members.{spelled_in, is_rule_kept_in}, inner.Pass.bad_below}, policy.specs.Inherited.label_step}
use Rattle.{policy.specs.declared.{case.Case.Case, standing.Standing.Standing}, redact.proofs.{Fates.{by_fates, put-keeps}, Paired.places-paired}}
use Rattle.redact.proofs.{Places.{paths-cut, paths-kept, placed}, Spelling.{accepted, framed-rule, seen-spells}, Whole.{says, left-sound, left-lines}}
use Rattle.redact.specs.{Excerpts.LabelsSurvive, Kept.{Attribute, Verdicts, is_kept}, Told.{verdicts_of, kept_outline}, Withheld.place_of, inner.Judged.judge}
use Rattle.redact.specs.inner.Judged.{Surrounding, root, inside, keeps_plain, shows_label, left_before, new_place, left_with, moved, is_end, put_leaf}
use Rattle.redact.specs.inner.{Judged.{attribute_leaf, put_attributes, cut, places}, Paired.{class_places, place_by}}

-- ---- how the classes of a document are marked, read from its tree

-- For each class of a tree below p: the marking rule, the written label and the label that holds, by those of its
-- parent and its members.
abbrev pub AreMarked : List LocatedLine → Tokens → Forest → Type 0
AreMarked es p end = Unit {0}
AreMarked es p (leaf i rest) = AreMarked es p rest
AreMarked es p (branch name place kids rest) =
    let q = p ++ steps name place in
    (is_well_marked es q ≡ is_rule_kept_in kids) × (written_label es q ≡ spelled_in kids) × (label_at es q ≡ label_step (label_at es p) q (spelled_in kids))
    × AreMarked es q kids × AreMarked es p rest

marked-in : (es : List LocatedLine) → AreUnderParents es → (f : Forest) (d : ℕ) (p : Tokens) → AreBlocks es d p f → ArePlaced es p f → AreMarked es p f
marked-in es under end d p blocks there = tt
marked-in es under (leaf i rest) d p blocks there = marked-in es under rest d p blocks there
marked-in es under (branch name place kids rest) d p blocks there =
    let q = p ++ steps name place in (
      well_marked-block es (suc d) q kids under blocks.0,
      written-block es (suc d) q kids under blocks.0 there.0,
      label-steps es p name place (λ s. own-none es (p ++ name ∷ []) (not_root p name None) (there.1 s))
          ∙ ap (λ o. unwrap_or o (label_at es p)) (sym (own-class es q kids under (suc d, blocks.0) (or_right (is_root q) _ there.0)) ∙ cond-false (is_root q) _ _ (not_root p name place)),
      marked-in es under kids (suc d) q blocks.1 there.2,
      marked-in es under rest d p blocks.2 there.3,
    )

marked-all : (f : Forest) → IsSound f → AreMarked (located (lines 1 f)) [] f
marked-all f sound = marked-in (located (lines 1 f)) (below-parents (lines 1 f)) f 1 [] (blocks-located f sound) (classes-placed f sound)

-- the same without a member of a label
marked-put : (es : List LocatedLine) (p : Tokens) (x : Leaf) (f : Forest) → AreMarked es p (put_leaf x f) → AreMarked es p f
marked-put es p x = put-keeps (λ f g. AreMarked es p g → AreMarked es p f) x (λ f h. h) (λ i f g k h. k h) (λ name place kids f g k h. (h.0, h.1, h.2, h.3, k h.4))

marked-label : (says : Bool) (es : List LocatedLine) (p : Tokens) (label : List Attribute) (f : Forest) → AreMarked es p (if says then put_attributes label f else f) → AreMarked es p f
marked-label false es p label f h = h
marked-label true es p [] f h = h
marked-label true es p (a ∷ label) f h = marked-label true es p label f (marked-put es p (attribute_leaf a) (put_attributes label f) h)

-- ---- the path of the Incident

-- a step has as many tokens at its place in the excerpt
same_length : (name : Bytes) (place : Option ℕ) (n : ℕ) → length (steps name (new_place n place)) ≡ length (steps name place)
same_length name place n = grind arith

abbrev is_incident : Tokens → Bool
is_incident p = same_path p incident_path

-- one step below these paths, both are the Incident's or neither is
abbrev AreAlike : Tokens → Tokens → Type 0
AreAlike p q = (name : Bytes) (place : Option ℕ) (n : ℕ) → is_incident (q ++ steps name (new_place n place)) ≡ is_incident (p ++ steps name place)

far : (p : Tokens) → 3 ≤ length p → is_incident p ≡ false
far p h = is_false (is_incident p) (λ same. let e : length p ≡ 2 = ap length (same_path-true p incident_path same) in absurd (omega (arith, h, e)))

far-below : (p : Tokens) (a b : Bytes) (o o' : Option ℕ) → 3 ≤ length p + (length (steps a o) + length (steps b o')) → is_incident ((p ++ steps a o) ++ steps b o') ≡ false
far-below p a b o o' h = far ((p ++ steps a o) ++ steps b o') (omega (arith, h, length-append (p ++ steps a o) (steps b o'), length-append p (steps a o)))

both-far : (p q : Tokens) (a b : Bytes) (o o' : Option ℕ) (n m : ℕ) → length q ≡ length p → 3 ≤ length p + (length (steps a o) + length (steps b o')) →
    is_incident ((q ++ steps a (new_place n o)) ++ steps b (new_place m o')) ≡ is_incident ((p ++ steps a o) ++ steps b o')
both-far p q a b o o' n m same h =
    far-below q a b (new_place n o) (new_place m o') (omega (arith, h, same, same_length a o n, same_length b o' m)) ∙ sym (far-below p a b o o' h)

alike-below : (p q : Tokens) (a : Bytes) (o : Option ℕ) (n : ℕ) → length q ≡ length p → AreAlike (p ++ steps a o) (q ++ steps a (new_place n o))
alike-below p q a (Some k) n same b None m = both-far p q a b (Some k) None n m same (omega arith)
alike-below p q a (Some j) n same b (Some k) m = both-far p q a b (Some j) (Some k) n m same (omega arith)
alike-below p q a None n same b (Some k) m = both-far p q a b None (Some k) n m same (omega arith)
alike-below [] [] a None n same b None m = refl
alike-below (x ∷ p) q a None n same b None m = both-far (x ∷ p) q a b None None n m same (omega arith)
alike-below [] (y ∷ q) a None n same b None m = absurd (omega (arith, same))

-- ---- one class

-- A visible class has its label in the excerpt. It says the label itself, or there is one above it that it has in the
-- document too.
same-label : (w : Option LabelValue) (u shows incident incident' : Bool) (above above' label : LabelValue) → u ≡ is_none w →
    label ≡ unwrap_or (option_or w (if incident then Some private else None)) above → (shows ≡ true → (above' ≡ above) × (incident' ≡ incident)) →
    unwrap_or (option_or (if u && not shows then Some label else w) (if incident' then Some private else None)) above' ≡ label
same-label w u shows incident incident' above above' label e is same = grind arith

module _ (es es' : List LocatedLine) (c : Case) (s : Standing) where
  abbrev v : Verdicts
  v = verdicts_of es c s

  -- A kept class keeps the marking rule at its place. If it is visible, its label holds there.
  abbrev Survives : Tokens × Tokens → Type 0
  Survives x = (is_well_marked es' x.1 ≡ true) × (v.visible x.0 ≡ true → label_at es' x.1 ≡ label_at es x.0)

  survive : (f : Forest) (h : Surrounding) (p q : Tokens) (n : ℕ) → AreMarked es p f → AreMarked es' q (cut h n (judge v p f)) → HasApart f → bad_below f ≡ None →
      length q ≡ length p → (shows_label h ≡ true → (label_at es' q ≡ label_at es p) × AreAlike p q) → AllByRecursion Survives (places h p q n (judge v p f))
  survive end h p q n here there apart ok same above = tt
  survive (leaf i rest) h p q n here there apart ok same above =
      elim (keeps_plain h) as (λ b. AreMarked es' q (if b then leaf (moved n i) (cut h (left_with n i.place) (judge v p rest)) else cut h (left_before n i.place) (judge v p rest)) →
      AllByRecursion Survives (places h p q (if b then left_with n i.place else left_before n i.place) (judge v p rest))) [
        | true ↦ λ there. survive rest h p q (left_with n i.place) here there apart.1 ok same above
        | false ↦ λ there. survive rest h p q (left_before n i.place) here there apart.1 ok same above
      ] there
  survive (branch name place kids rest) h p q n here there apart ok same above =
      let p' = p ++ steps name place in
      let r = q ++ steps name (new_place n place) in
      let J = judge v p' kids in
      let rules = accepted name place kids rest ok in
      let deeper : length r ≡ length p' = length-append q (steps name (new_place n place)) ∙ (λ i. same i + same_length name place n i) ∙ sym (length-append p (steps name place)) in
      let after = λ (m : ℕ) (t : AreMarked es' q (cut h m (judge v p rest))). survive rest h p q m here.4 t apart.2 rules.2 same above in
      by_fates (λ left ps. AreMarked es' q left → AllByRecursion Survives ps) (v.visible p') (is_end (cut (inside false) 0 J)) _ _ _ _ _ _
      (λ seen t.
      let spells = seen-spells v kids h p' (label_at es p') rules.0 (ap is_none here.1) refl in
      let label : label_at es' r ≡ label_at es p' =
      t.2 ∙ ap (label_step (label_at es' q) r) spells.1
      ∙ same-label (spelled_in kids) (v.unmarked p') (shows_label h) (is_incident p') (is_incident r) (label_at es p) (label_at es' q) (label_at es p') (ap is_none here.1) here.2 (λ e. ((above e).0, (above e).1 name place n)) in (
        (t.0 ∙ spells.0, λ _. label),
        all-append Survives (places (inside true) p' r 0 J) (places h p q (left_with n place) (judge v p rest))
            (survive kids (inside true) p' r 0 here.3 (marked-label (v.unmarked p' && not (shows_label h)) es' r (v.label p') (cut (inside true) 0 J) t.3) apart.1 rules.1 deeper (λ _. (label, alike-below p q name place n same)))
            (after (left_with n place) t.4),
      ))
      (λ hidden t. (
        (t.0 ∙ framed-rule v kids p' apart.1 rules.0, λ seen. absurd (true≢false (sym seen ∙ hidden))),
        all-append Survives (places (inside false) p' r 0 J) (places h p q (left_with n place) (judge v p rest))
            (survive kids (inside false) p' r 0 here.3 t.3 apart.1 rules.1 deeper (λ e. absurd (false≢true e)))
            (after (left_with n place) t.4),
      ))
      (λ hidden gone. after (left_before n place))
      there

-- ---- a property of some elements of a list

all-of_map : {X Y : Type 0} (Q : Y → Type 0) (g : X → Y) (xs : List X) → AllByRecursion Q (map g xs) → AllByRecursion (λ x. Q (g x)) xs
all-of_map Q g [] h = tt
all-of_map Q g (x ∷ xs) h = (h.0, all-of_map Q g xs h.1)

all-of_filter : {X : Type 0} (Q : X → Type 0) (P : X → Bool) (xs : List X) → AllByRecursion Q (filter P xs) → AllByRecursion (λ x. P x ≡ true → Q x) xs
all-of_filter Q P [] h = tt
all-of_filter Q P (x ∷ xs) h =
    cond_both (P x) _ _ (λ ys. AllByRecursion Q ys → (P x ≡ true → Q x) × AllByRecursion (λ x. P x ≡ true → Q x) xs)
    (λ e all. ((λ _. all.0), all-of_filter Q P xs all.1)) (λ e all. ((λ t. absurd (true≢false (sym t ∙ e))), all-of_filter Q P xs all)) h

-- ---- a whole document

module _ (f : Forest) (c : Case) (s : Standing) (sound : IsSound f) (ok : first_bad_marking (located (lines 1 f)) ≡ None) where
  abbrev es : List LocatedLine
  es = located (lines 1 f)

  abbrev verdicts : Verdicts
  verdicts = verdicts_of (located (lines 1 f)) c s

  abbrev left : Forest
  left = cut root 0 (judge (verdicts_of (located (lines 1 f)) c s) [] f)

  abbrev es' : List LocatedLine
  es' = located (lines 1 left)

  abbrev all_places : List (Tokens × Tokens)
  all_places = places root [] [] 0 (judge (verdicts_of (located (lines 1 f)) c s) [] f)

  survived : AllByRecursion (Survives es es' c s) all_places
  survived =
      survive es es' c s f root [] [] 0 (marked-all f sound) (marked-all left (left-sound f c s sound ok)) (sound-apart f sound) (sym (first_bad f sound) ∙ ok) refl
      (λ e. absurd (false≢true e))

  none-bad : (xs : List (Tokens × Tokens)) → AllByRecursion (Survives es es' c s) xs → find (λ p. not (is_well_marked es' p)) (map (λ x. x.1) xs) ≡ None
  none-bad [] h = refl
  none-bad (x ∷ xs) h = cond-false (not (is_well_marked es' x.1)) _ _ (ap not h.0.0) ∙ none-bad xs h.1

  pub markings-accepted : first_bad_marking (located (kept_outline (lines 1 f) c s)) ≡ None
  markings-accepted =
      rw (left-lines f c s sound ok, classes-lines left (left-sound f c s sound ok), paths-cut (judge verdicts [] f) root [] [] 0) (none-bad all_places survived)

  -- the label of the class holds at its place
  abbrev HasLabel : Tokens → Type 0
  HasLabel p = option_map (label_at es') (place_of verdicts es p) ≡ Some (label_at es p)

  labels-placed : (xs : List (Tokens × Tokens)) → AllByRecursion (λ x. place_by (class_places verdicts es) x.0 ≡ Some x.1) xs → AllByRecursion (Survives es es' c s) xs →
      AllByRecursion (λ p. verdicts.visible p ≡ true → HasLabel p) (map (λ x. x.0) xs)
  labels-placed [] there h = tt
  labels-placed (x ∷ xs) there h = ((λ seen. ap (option_map (label_at es')) (places-paired verdicts es x.0 ∙ there.0) ∙ ap Some (h.0.1 seen)), labels-placed xs there.1 h.1)

  pub labels-survive : LabelsSurvive (lines 1 f) c s (kept_outline (lines 1 f) c s)
  labels-survive =
      let walked = located-lines f sound in
      let Q = λ (p : Tokens). verdicts.visible p ≡ true → HasLabel p in
      let kept : AllByRecursion Q (class_paths (filter (is_kept verdicts) es)) =
      subst (AllByRecursion Q) (sym (ap (λ ws. class_paths (filter (is_kept verdicts) ws)) walked ∙ paths-kept verdicts f 1 [] [] 0 (says f c s sound ok))) (labels-placed all_places
      (subst (λ ws. AllByRecursion (λ x. place_by (class_places verdicts ws) x.0 ≡ Some x.1) all_places) (sym walked) (placed verdicts f sound (says f c s sound ok) (left-sound f c s sound ok)))
      survived) in
      let each = all-of_filter (λ e. is_class e ≡ true → Q e.path) (is_kept verdicts) es
      (all-of_filter (λ e. Q e.path) is_class (filter (is_kept verdicts) es) (all-of_map Q (λ e. e.path) (filter is_class (filter (is_kept verdicts) es)) kept)) in
      subst (LabelsSurvive (lines 1 f) c s) (sym (left-lines f c s sound ok)) (λ e here seen.
      let parts = and_parts (is_class e) (verdicts.visible e.path) seen in
      All-contains (λ e. is_kept verdicts e ≡ true → is_class e ≡ true → Q e.path) es e (All-from_recursion (λ e. is_kept verdicts e ≡ true → is_class e ≡ true → Q e.path) es each) here
      (cond-true (is_class e) _ _ parts.0 ∙ or_left (verdicts.visible e.path) _ parts.1) parts.0 parts.1)
