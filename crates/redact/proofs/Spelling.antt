-- The label that is spelled in a class, and in what is kept of it. A class in which no label is spelled has no member
-- of a label.
use Rattle.std.proofs.Common.{decimal, arith, ◌≡◌, ℕ, suc, Bool, true, List, [], ◌++◌, refl, sym, ◌∙◌, ap, if◌then◌else◌, Option, Some, None, is_some, is_none}
use Rattle.std.proofs.{Common.{option_map, codes, bytes_eq, false, not, ◌∷◌, subst, ◌&&◌, true≢false}, Math.Bool.and-true, lemmas.Bool.{cond_both, cond-false}}
use Rattle.{std.{proofs.lemmas.Bool.{and_parts, or_right, false≢true}, specs.Option.option_or}, iodef_tree.proofs.Order.{bytes_eq-refl, bytes_eq-true}}
use Rattle.iodef_tree.{proofs.{Order.is_false, Siblings.siblings-map}, specs.{Laws.{AreApart, HasApart}, Paths.LocatedLine, Text.{Bytes, Tokens}, Tree.Content}}
use Rattle.{iodef_tree.specs.{Tree.{Forest, end, leaf, branch, steps, kind_of, text_of}, Walk.AreBlocks}, marking.proofs.Placed.ArePlaced}
use Rattle.marking.{proofs.Written.{AreUnderParents, written-block}, specs.{Label.{LabelValue, restriction_of, public, spelled}, Marks.{Held, absent, other}}}
use Rattle.marking.specs.{Marks.{held_by_kind, spelled_by, is_rule_kept, one_text, held_by_line}, Members.{held_in, is_rule_kept_in, held_by_leaf, spelled_in}}
use Rattle.{marking.specs.inner.Pass.bad_below, policy.specs.declared.{case.Case.Case, standing.Standing.Standing}, redact.proofs.Counts.AreLabelNames}
use Rattle.redact.{proofs.{Fates.{by_fate, put-keeps}, Keeping.leaf_line-moved, Ordered.{Lacks, Fits, LabelsFit, lacks-put, lacks-cut}}, specs.Kept.Attribute}
use Rattle.redact.specs.{Kept.Verdicts, Told.{ext_restriction_of, attributes_by, attributes_of, verdicts_of}, inner.Judged.{judge, judgment_at, Surrounding}}
use Rattle.redact.specs.inner.Judged.{inside, shows_label, left_before, left_with, is_end, put_leaf, attribute_leaf, put_attributes, with_label, cut}

-- ---- a class in which no label is written

held-kind : (in_array : Bool) (c : Content) → (if in_array then other else held_by_kind (kind_of c) (text_of c)) ≡ absent → ⊥
held-kind in_array c h = grind arith

-- a name under which a class holds nothing isn't among its members
pub absent-lacks : (name : Bytes) (f : Forest) → held_in name f ≡ absent → Lacks name f
absent-lacks name end h = tt
absent-lacks name (leaf i rest) h =
    cond_both (bytes_eq i.name name) _ _ (λ held. held ≡ absent → Lacks name (leaf i rest)) (λ e k. absurd (held-kind (is_some i.place) i.content k)) (λ e k. (e, absent-lacks name rest k)) h
absent-lacks name (branch n place kids rest) h =
    cond_both (bytes_eq n name) _ _ (λ held. held ≡ absent → Lacks name (branch n place kids rest)) (λ e k. cc) (λ e k. (e, absent-lacks name rest k)) h

pub unmarked-absent : (r e : Held) → is_rule_kept r e ≡ true → is_none (spelled_by r e) ≡ true → (r ≡ absent) × (e ≡ absent)
unmarked-absent r e h k = grind arith

-- a label fits if its members are lacking
fits-by : (restriction : Bytes) (ext : Option Bytes) (f : Forest) → Lacks (codes "restriction") f → Lacks (codes "ext-restriction") f → Fits (attributes_by restriction ext) f
fits-by restriction None f r e = (r, tt, tt)
fits-by restriction (Some ext) f r e = (e, (refl, tt), (r, tt, tt))

names-by : (restriction : Bytes) (ext : Option Bytes) → AreLabelNames (attributes_by restriction ext)
names-by restriction None = (refl, tt)
names-by restriction (Some ext) = (refl, (refl, tt))

pub label-names : (l : LabelValue) → AreLabelNames (attributes_of l)
label-names l = names-by (restriction_of l) (ext_restriction_of l)

-- the marking rule of a class, of those below it and of those behind it
pub accepted : (name : Bytes) (place : Option ℕ) (kids rest : Forest) → bad_below (branch name place kids rest) ≡ None →
    (is_rule_kept_in kids ≡ true) × (bad_below kids ≡ None) × (bad_below rest ≡ None)
accepted name place kids rest h = by_rule (is_rule_kept_in kids) (bad_below kids) (bad_below rest) h
  where
    by_rule : (b : Bool) (k r : Option Tokens) → option_or (option_map (λ t. steps name place ++ t) (if b then k else Some [])) r ≡ None →
        (b ≡ true) × (k ≡ None) × (r ≡ None)
    by_rule b k r h = grind arith

module _ (es : List LocatedLine) (c : Case) (s : Standing) (under : AreUnderParents es) where
  pub labels-fit : (f : Forest) (d : ℕ) (p : Tokens) → AreBlocks es d p f → ArePlaced es p f → bad_below f ≡ None → LabelsFit (verdicts_of es c s) p f
  labels-fit end d p blocks there ok = tt
  labels-fit (leaf i rest) d p blocks there ok = labels-fit rest d p blocks there ok
  labels-fit (branch name place kids rest) d p blocks there ok =
      let q = p ++ steps name place in
      let parts = accepted name place kids rest ok in
      let written = written-block es (suc d) q kids under blocks.0 there.0 in (
        (λ u.
            let gone = unmarked-absent (held_in (codes "restriction") kids) (held_in (codes "ext-restriction") kids) parts.0 (ap is_none (sym written) ∙ u) in
            fits-by _ _ kids (absent-lacks (codes "restriction") kids gone.0) (absent-lacks (codes "ext-restriction") kids gone.1)),
        labels-fit kids (suc d) q blocks.1 there.2 parts.1,
        labels-fit rest d p blocks.2 there.3 parts.2,
      )

lacks-absent : (name : Bytes) (f : Forest) → Lacks name f → held_in name f ≡ absent
lacks-absent name end h = refl
lacks-absent name (leaf i rest) h = cond-false (bytes_eq i.name name) _ _ h.0 ∙ lacks-absent name rest h.1
lacks-absent name (branch n place kids rest) h = cond-false (bytes_eq n name) _ _ h.0 ∙ lacks-absent name rest h.1

-- ---- a label that is put in

swap : (a b : Bool) (x y z : Held) → (b ≡ true → a ≡ false) → (if a then y else (if b then x else z)) ≡ (if b then x else (if a then y else z))
swap a b x y z h = grind arith

-- a member that is put in is held under its name
held-put : (name : Bytes) (a : Attribute) (f : Forest) → (bytes_eq a.0 name ≡ true → Lacks name f) →
    held_in name (put_leaf (attribute_leaf a) f) ≡ (if bytes_eq a.0 name then one_text a.1 else held_in name f)
held-put name a = put-keeps (λ f g. (bytes_eq a.0 name ≡ true → Lacks name f) → held_in name g ≡ (if bytes_eq a.0 name then one_text a.1 else held_in name f)) (attribute_leaf a)
    (λ f lacks. refl)
    (λ i f g h lacks. ap (λ x. if bytes_eq i.name name then held_by_leaf i else x) (h (λ e. (lacks e).1)) ∙ swap (bytes_eq i.name name) (bytes_eq a.0 name) (one_text a.1) (held_by_leaf i) (held_in name f) (λ e. (lacks e).0))
    (λ n place kids f g h lacks. ap (λ x. if bytes_eq n name then other else x) (h (λ e. (lacks e).1)) ∙ swap (bytes_eq n name) (bytes_eq a.0 name) (one_text a.1) other (held_in name f) (λ e. (lacks e).0))

spelled-attributes : (restriction : Bytes) (ext : Option Bytes) (f : Forest) → Lacks (codes "restriction") f → Lacks (codes "ext-restriction") f →
    spelled_in (put_attributes (attributes_by restriction ext) f) ≡ spelled restriction ext
spelled-attributes restriction None f r e =
    let own : Attribute = (codes "restriction", restriction) in
    rw (held-put (codes "restriction") own f (λ _. r), held-put (codes "ext-restriction") own f (λ h. absurd (false≢true h)), lacks-absent (codes "ext-restriction") f e)
spelled-attributes restriction (Some ext) f r e =
    let own : Attribute = (codes "restriction", restriction) in
    let beside : Attribute = (codes "ext-restriction", ext) in
    let g = put_leaf (attribute_leaf own) f in
    rw (held-put (codes "restriction") beside g (λ h. absurd (false≢true h)), held-put (codes "ext-restriction") beside g (λ _. lacks-put (codes "ext-restriction") (attribute_leaf own) refl f e))
    (rw (held-put (codes "restriction") own f (λ _. r)))

spelled-again : (l : LabelValue) → spelled (restriction_of l) (ext_restriction_of l) ≡ Some l
spelled-again public = refl
spelled-again _ = refl

-- ---- the members that are kept

abbrev is_other : Held → Bool
is_other absent = false
is_other (one_text t) = false
is_other other = true

-- if the marking rule is kept, a class holds a text or nothing under the two names
no-other : (r e : Held) → is_rule_kept r e ≡ true → (is_other r ≡ false) × (is_other e ≡ false)
no-other r e h = grind arith

behind : (b : Bool) (x y z : Held) → is_other (if b then x else y) ≡ false → (is_other y ≡ false → z ≡ y) → (if b then x else z) ≡ (if b then x else y)
behind b x y z h next = grind arith

past : (b : Bool) (y z : Held) → is_other (if b then other else y) ≡ false → (is_other y ≡ false → z ≡ y) → z ≡ (if b then other else y)
past b y z h next = grind arith

-- a plain member outside arrays is the only one of its name
alone : (x : Bytes) (o : Option ℕ) (m : Bytes) (o' : Option ℕ) → is_some o ≡ false → AreApart x o m o' → bytes_eq m x ≡ false
alone x None m None h apart = sym (and-true (bytes_eq m x)) ∙ apart.right []
alone x None m (Some k) h apart = sym (and-true (bytes_eq m x)) ∙ (rw (bytes_eq-refl (decimal k)) at (apart.right (decimal k ∷ [])))
alone x (Some k) m o' h apart = absurd (true≢false h)

module _ (v : Verdicts) where
  -- a visible class holds what it held before
  held-seen : (name : Bytes) (f : Forest) (p : Tokens) (n : ℕ) → is_other (held_in name f) ≡ false → held_in name (cut (inside true) n (judge v p f)) ≡ held_in name f
  held-seen name end p n h = refl
  held-seen name (leaf i rest) p n h =
      ap (λ l. if bytes_eq i.name name then held_by_line l else held_in name (cut (inside true) (left_with n i.place) (judge v p rest))) (leaf_line-moved 0 n i)
      ∙ behind (bytes_eq i.name name) (held_by_leaf i) (held_in name rest) _ h (held-seen name rest p (left_with n i.place))
  held-seen name (branch m place kids rest) p n h =
      let after = behind (bytes_eq m name) other (held_in name rest) _ h (held-seen name rest p (left_with n place)) in
      by_fate (λ f. held_in name f ≡ held_in name (branch m place kids rest)) (v.visible (p ++ steps m place)) (is_end (cut (inside false) 0 (judge v (p ++ steps m place) kids))) _ _ _
      after after (past (bytes_eq m name) (held_in name rest) _ h (held-seen name rest p (left_before n place)))

  -- A frame has no member of a name under which the class held a text or nothing.
  lacks-framed : (name : Bytes) (f : Forest) (p : Tokens) (n : ℕ) → HasApart f → is_other (held_in name f) ≡ false → Lacks name (cut (inside false) n (judge v p f))
  lacks-framed name end p n apart h = tt
  lacks-framed name (leaf i rest) p n apart h =
      let R = cut (inside false) (left_before n i.place) (judge v p rest) in
      cond_both (bytes_eq i.name name) _ _ (λ held. is_other held ≡ false → Lacks name R)
      (λ e k.
      let single : is_some i.place ≡ false = is_false (is_some i.place) (λ s. true≢false (sym (ap (λ b. is_other (if b then other else held_by_kind (kind_of i.content) (text_of i.content))) s) ∙ k)) in
      lacks-cut v name rest (inside false) p (left_before n i.place)
      (siblings-map (AreApart i.name i.place) (λ m o. bytes_eq m name ≡ false) rest (λ m o a. subst (λ x. bytes_eq m x ≡ false) (bytes_eq-true i.name name e) (alone i.name i.place m o single a)) apart.0))
      (λ e k. lacks-framed name rest p (left_before n i.place) apart.1 k) h
  lacks-framed name (branch m place kids rest) p n apart h =
      let differs = cond_both (bytes_eq m name) _ _ (λ held. is_other held ≡ false → (bytes_eq m name ≡ false) × (is_other (held_in name rest) ≡ false)) (λ e k. absurd (true≢false k)) (λ e k. (e, k)) h in
      let after : (bytes_eq m name ≡ false) × Lacks name (cut (inside false) (left_with n place) (judge v p rest)) = (differs.0, lacks-framed name rest p (left_with n place) apart.2 differs.1) in
      by_fate (Lacks name) (v.visible (p ++ steps m place)) (is_end (cut (inside false) 0 (judge v (p ++ steps m place) kids))) _ _ _
      after after (lacks-framed name rest p (left_before n place) apart.2 differs.1)

  -- a frame keeps the marking rule, as it holds neither of the two
  pub framed-rule : (f : Forest) (p : Tokens) → HasApart f → is_rule_kept_in f ≡ true → is_rule_kept_in (cut (inside false) 0 (judge v p f)) ≡ true
  framed-rule f p apart rule =
      let held = no-other (held_in (codes "restriction") f) (held_in (codes "ext-restriction") f) rule in
      let F = cut (inside false) 0 (judge v p f) in
      ap (λ r. is_rule_kept r (held_in (codes "ext-restriction") F)) (lacks-absent (codes "restriction") F (lacks-framed (codes "restriction") f p 0 apart held.0))
      ∙ ap (is_rule_kept absent) (lacks-absent (codes "ext-restriction") F (lacks-framed (codes "ext-restriction") f p 0 apart held.1))

  -- A visible class keeps the rule. It spells the label that it has to say, or else the one that was spelled in it.
  pub seen-spells : (f : Forest) (h : Surrounding) (p : Tokens) (l : LabelValue) → is_rule_kept_in f ≡ true → v.unmarked p ≡ is_none (spelled_in f) → v.label p ≡ attributes_of l →
      let S = with_label h (judgment_at v p) (cut (inside true) 0 (judge v p f)) in
      (is_rule_kept_in S ≡ true) × (spelled_in S ≡ (if v.unmarked p && not (shows_label h) then Some l else spelled_in f))
  seen-spells f h p l rule unmarked label =
      let held = no-other (held_in (codes "restriction") f) (held_in (codes "ext-restriction") f) rule in
      let F = cut (inside true) 0 (judge v p f) in
      let r = held-seen (codes "restriction") f p 0 held.0 in
      let x = held-seen (codes "ext-restriction") f p 0 held.1 in
      elim (v.unmarked p && not (shows_label h)) as (λ b. (v.unmarked p && not (shows_label h)) ≡ b →
      let S = if b then put_attributes (v.label p) F else F in
      (is_rule_kept_in S ≡ true) × (spelled_in S ≡ (if b then Some l else spelled_in f))) [
        | true ↦ λ e.
            let none = unmarked-absent (held_in (codes "restriction") f) (held_in (codes "ext-restriction") f) rule (sym unmarked ∙ (and_parts (v.unmarked p) _ e).0) in
            let says : spelled_in (put_attributes (v.label p) F) ≡ Some l =
            ap (λ a. spelled_in (put_attributes a F)) label
            ∙ spelled-attributes (restriction_of l) (ext_restriction_of l) F (absent-lacks (codes "restriction") F (r ∙ none.0)) (absent-lacks (codes "ext-restriction") F (x ∙ none.1))
            ∙ spelled-again l in
            (or_right _ _ (ap is_some says), says)
        | false ↦ λ e. ((λ i. is_rule_kept (r i) (x i)) ∙ rule, λ i. spelled_by (r i) (x i))
      ] refl
