-- In a document whose markings are accepted, no class below the root has the name of a label's member. So the labels
-- written outside a class and what is below it don't depend on that.
use Rattle.std.proofs.Common.{◌≡◌, ℕ, suc, Bool, true, false, not, List, [], ◌∷◌, ◌++◌, refl, sym, ◌∙◌, ap, subst, if◌then◌else◌, ◌&&◌, ◌||◌}
use Rattle.std.proofs.lemmas.Bool.{false≢true, not-false, false_from_ne_true, and_left, and_parts, and_from, or_parts, cond-true, cond-false}
use Rattle.std.specs.{List.AllByRecursion, Option.option_or, Prelude.{Option, Some, None, codes, is_some, option_map}, Str.bytes_eq}
use Rattle.iodef_tree.proofs.{Apart.sound-apart, ByPath.has_class-root, Located.located-lines, Order.{bytes_eq-true, bytes_eq-refl, same_path-true}}
use Rattle.iodef_tree.{proofs.Siblings.all-append, specs.{Laws.{AllSiblings, AreApart, HasApart, IsDocument}, Paths.{LocatedLine, is_class, located}}}
use Rattle.iodef_tree.specs.{Paths.has_class, Text.{Bytes, Tokens, is_root, same_path, is_prefix}, Tree.{Forest, end, leaf, branch, steps, kind_of, text_of}}
use Rattle.{iodef_tree.specs.{Walk.{walk, leaf_entry}, declared.line.Line.Line}, marking.{proofs.Bad.{no_class-kind, first_bad}, specs.Marks.{Held, absent}}}
use Rattle.marking.specs.Marks.{one_text, other, held_by_line, is_member, restriction_at, ext_restriction_at, spelled_by, is_rule_kept, written_label}
use Rattle.marking.specs.{Marks.first_bad_marking, Members.{held_by_leaf, held_in, is_rule_kept_in}, inner.Pass.bad_below}
use Rattle.redact.{proofs.{DecidedAlike.{held-same, classes-same}, Filtered.each-from}, specs.Alike.{is_within, lines_but}}

abbrev is_label_name : Bytes → Bool
is_label_name name = bytes_eq name (codes "restriction") || bytes_eq name (codes "ext-restriction")

-- a class of this name among these members
abbrev has_branch : Bytes → Forest → Bool
has_branch name end = false
has_branch name (leaf i rest) = has_branch name rest
has_branch name (branch n place kids rest) = bytes_eq n name || has_branch name rest

-- no class behind a plain member outside arrays has its name
alone : (name n : Bytes) (f : Forest) → bytes_eq n name ≡ true → AllSiblings (AreApart n None) f → has_branch name f ≡ false
alone name n end e h = refl
alone name n (leaf i rest) e h = alone name n rest e h.1
alone name n (branch n' place kids rest) e h = by_test (bytes_eq n' name) refl (alone name n rest e h.1)
  where
    front : (o : Option ℕ) → bytes_eq n n' ≡ true → is_prefix (n ∷ []) (steps n' o ++ []) ≡ true
    front None k = and_from (bytes_eq n n') true k refl
    front (Some j) k = and_from (bytes_eq n n') true k refl

    by_test : (b : Bool) → bytes_eq n' name ≡ b → has_branch name rest ≡ false → (b || has_branch name rest) ≡ false
    by_test true k ih =
        let same : n ≡ n' = bytes_eq-true n name e ∙ sym (bytes_eq-true n' name k) in
        absurd (false≢true (sym (h.0.left []) ∙ front place (subst (λ x. bytes_eq n x ≡ true) same (bytes_eq-refl n))))
    by_test false k ih = ih

-- a class counts as something other than a text
held-other : (name : Bytes) (f : Forest) → HasApart f → has_branch name f ≡ true → held_in name f ≡ other
held-other name end a h = absurd (false≢true h)
held-other name (leaf i rest) a h = by_test (bytes_eq i.name name) refl (held-other name rest a.1 h)
  where
    by_place : (o : Option ℕ) → i.place ≡ o → bytes_eq i.name name ≡ true → held_by_leaf i ≡ other
    by_place None k e = absurd (false≢true (sym (alone name i.name rest e (subst (λ o. AllSiblings (AreApart i.name o) rest) k a.0)) ∙ h))
    by_place (Some j) k e = ap (λ o. held_by_line (record { depth = 0; name = i.name; in_array = is_some o; kind = kind_of i.content; text = text_of i.content })) k

    by_test : (b : Bool) → bytes_eq i.name name ≡ b → held_in name rest ≡ other → (if b then held_by_leaf i else held_in name rest) ≡ other
    by_test true e ih = by_place i.place refl e
    by_test false e ih = ih
held-other name (branch n place kids rest) a h = by_test (bytes_eq n name) h (held-other name rest a.2)
  where
    by_test : (b : Bool) → (b || has_branch name rest) ≡ true → (has_branch name rest ≡ true → held_in name rest ≡ other) → (if b then other else held_in name rest) ≡ other
    by_test true k ih = refl
    by_test false k ih = ih k

no_text : (r : Held) → is_rule_kept r other ≡ false
no_text absent = refl
no_text (one_text t) = refl
no_text other = refl

-- if the marking rule is kept, no class among the members has such a name
no-branch : (name : Bytes) (f : Forest) → HasApart f → is_rule_kept_in f ≡ true → (held_in name f ≡ other → is_rule_kept_in f ≡ false) → has_branch name f ≡ false
no-branch name f a kept breaks = by_test (has_branch name f) refl
  where
    by_test : (b : Bool) → has_branch name f ≡ b → has_branch name f ≡ false
    by_test true k = absurd (false≢true (sym (breaks (held-other name f a k)) ∙ kept))
    by_test false k = k

no-restriction : (f : Forest) → HasApart f → is_rule_kept_in f ≡ true → has_branch (codes "restriction") f ≡ false
no-restriction f a kept = no-branch (codes "restriction") f a kept (λ h. ap (λ r. is_rule_kept r (held_in (codes "ext-restriction") f)) h)

no-ext : (f : Forest) → HasApart f → is_rule_kept_in f ≡ true → has_branch (codes "ext-restriction") f ≡ false
no-ext f a kept = no-branch (codes "ext-restriction") f a kept (λ h. ap (is_rule_kept (held_in (codes "restriction") f)) h ∙ no_text (held_in (codes "restriction") f))

-- what is known of a class below which the marking rule is kept
record Good (kids rest : Forest) : Type 0 where
  kept : is_rule_kept_in kids ≡ true
  inner : bad_below kids ≡ None
  behind : bad_below rest ≡ None

good : (name : Bytes) (place : Option ℕ) (kids rest : Forest) → bad_below (branch name place kids rest) ≡ None → Good kids rest
good name place kids rest h = by_kept (is_rule_kept_in kids) (bad_below kids) refl refl h
  where
    by_kept : (b : Bool) (o : Option Tokens) → is_rule_kept_in kids ≡ b → bad_below kids ≡ o →
        option_or (option_map (λ t. steps name place ++ t) (if b then o else Some [])) (bad_below rest) ≡ None → Good kids rest
    by_kept true None k e h = record { kept = k; inner = e; behind = h }
    by_kept true (Some t) k e h = cc
    by_kept false o k e h = cc

abbrev IsNoLabel : LocatedLine → Type 0
IsNoLabel e = (is_class e && is_label_name e.line.name) ≡ false

inside : (f : Forest) (d : ℕ) (p : Tokens) → HasApart f → bad_below f ≡ None → has_branch (codes "restriction") f ≡ false → has_branch (codes "ext-restriction") f ≡ false → AllByRecursion IsNoLabel (walk d p f)
inside end d p a b r x = tt
inside (leaf i rest) d p a b r x = (and_left (is_class (leaf_entry d p i)) _ (no_class-kind i.content), inside rest d p a.1 b r x)
inside (branch name place kids rest) d p a b r x =
    let g = good name place kids rest b in
    let rs = or_parts (bytes_eq name (codes "restriction")) _ r in
    let xs = or_parts (bytes_eq name (codes "ext-restriction")) _ x in (
      ap (λ t. t || bytes_eq name (codes "ext-restriction")) rs.0 ∙ xs.0,
      all-append IsNoLabel (walk (suc d) (p ++ steps name place) kids) (walk d p rest)
          (inside kids (suc d) (p ++ steps name place) a.1 g.inner (no-restriction kids a.1 g.kept) (no-ext kids a.1 g.kept))
          (inside rest d p a.2 g.behind rs.1 xs.1),
    )

abbrev IsAtRoot : Tokens → LocatedLine → Type 0
IsAtRoot p e = (is_class e && is_label_name e.line.name) ≡ true → e.parent ≡ p

at-root : (f : Forest) (d : ℕ) (p : Tokens) → HasApart f → bad_below f ≡ None → AllByRecursion (IsAtRoot p) (walk d p f)
at-root end d p a b = tt
at-root (leaf i rest) d p a b = (λ k. refl, at-root rest d p a.1 b)
at-root (branch name place kids rest) d p a b =
    let g = good name place kids rest b in (
      λ k. refl,
      all-append (IsAtRoot p) (walk (suc d) (p ++ steps name place) kids) (walk d p rest)
          (each-from IsNoLabel (IsAtRoot p) (λ e h k. absurd (false≢true (sym h ∙ k))) (walk (suc d) (p ++ steps name place) kids)
          (inside kids (suc d) (p ++ steps name place) a.1 g.inner (no-restriction kids a.1 g.kept) (no-ext kids a.1 g.kept)))
          (at-root rest d p a.2 g.behind),
    )

labels-at-root : (ls : List Line) → IsDocument ls → first_bad_marking (located ls) ≡ None → AllByRecursion (IsAtRoot []) (located ls)
labels-at-root ls d marked = subst (λ xs. AllByRecursion (IsAtRoot []) (located xs)) (sym d.2)
    (subst (λ es. AllByRecursion (IsAtRoot []) es) (sym (located-lines d.0 d.1))
    (at-root d.0 1 [] (sound-apart d.0 d.1) (sym (first_bad d.0 d.1) ∙ ap (λ xs. first_bad_marking (located xs)) (sym d.2) ∙ marked)))

-- the labels written outside stay the same
pub labels-stay : (ls ls' : List Line) (p q : Tokens) → IsDocument ls → IsDocument ls' → first_bad_marking (located ls) ≡ None → first_bad_marking (located ls') ≡ None →
    lines_but (is_within p) ls ≡ lines_but (is_within p) ls' → is_prefix p q ≡ false → written_label (located ls) q ≡ written_label (located ls') q
labels-stay ls ls' p [] d d' m m' others k =
    ap (λ b. if b then spelled_by (restriction_at (located ls) []) (ext_restriction_at (located ls) []) else None) (has_class-root ls)
    ∙ sym (ap (λ b. if b then spelled_by (restriction_at (located ls') []) (ext_restriction_at (located ls') []) else None) (has_class-root ls'))
labels-stay ls ls' p (x ∷ q') d d' m m' others k =
    let es = located ls in
    let es' = located ls' in
    let keep : LocatedLine → Bool = λ e. not (is_within p e) in
    let none : (name : Bytes) (ks : List LocatedLine) → is_label_name name ≡ true → AllByRecursion (IsAtRoot []) ks → AllByRecursion (λ e. not (is_within p e) ≡ false → is_member (x ∷ q') name e ≡ false) ks =
    λ name ks l all. each-from (IsAtRoot []) (λ e. not (is_within p e) ≡ false → is_member (x ∷ q') name e ≡ false) (λ e h gone. not-member name e l h (not-false (is_within p e) gone)) ks all in
    ap (λ b. if b then spelled_by (restriction_at es (x ∷ q')) (ext_restriction_at es (x ∷ q')) else None) (classes-same keep es es' (x ∷ q') others (λ e gone. not-here e (not-false (is_within p e) gone)))
    ∙ ap (λ t. if has_class es' (x ∷ q') then spelled_by t (ext_restriction_at es (x ∷ q')) else None)
    (held-same keep es es' (x ∷ q') (codes "restriction") others (none (codes "restriction") es refl (labels-at-root ls d m)) (none (codes "restriction") es' refl (labels-at-root ls' d' m')))
    ∙ ap (λ t. if has_class es' (x ∷ q') then spelled_by (restriction_at es' (x ∷ q')) t else None)
    (held-same keep es es' (x ∷ q') (codes "ext-restriction") others (none (codes "ext-restriction") es refl (labels-at-root ls d m)) (none (codes "ext-restriction") es' refl (labels-at-root ls' d' m')))
  where
    not-here : (e : LocatedLine) → is_within p e ≡ true → (is_class e && same_path e.path (x ∷ q')) ≡ false
    not-here e w = false_from_ne_true (is_class e && same_path e.path (x ∷ q')) (λ t.
        let parts = and_parts (is_class e) (same_path e.path (x ∷ q')) t in
        false≢true (sym k ∙ ap (is_prefix p) (sym (same_path-true e.path (x ∷ q') parts.1) ∙ sym (cond-true (is_class e) e.path e.parent parts.0)) ∙ w))

    not-member : (name : Bytes) (e : LocatedLine) → is_label_name name ≡ true → IsAtRoot [] e → is_within p e ≡ true → is_member (x ∷ q') name e ≡ false
    not-member name e l h w = false_from_ne_true (is_member (x ∷ q') name e) (λ t.
        let parts = and_parts (same_path e.parent (x ∷ q')) (bytes_eq e.line.name name) t in
        by_kind (is_class e) refl (same_path-true e.parent (x ∷ q') parts.0) (bytes_eq-true e.line.name name parts.1))
      where
        by_kind : (b : Bool) → is_class e ≡ b → e.parent ≡ x ∷ q' → e.line.name ≡ name → ⊥
        by_kind true c up same =
            let root : e.parent ≡ [] = h (and_from (is_class e) (is_label_name e.line.name) c (ap is_label_name same ∙ l)) in
            false≢true (ap is_root (sym up ∙ root))
        by_kind false c up same = false≢true (sym k ∙ ap (is_prefix p) (sym up ∙ sym (cond-false (is_class e) e.path e.parent c)) ∙ w)
