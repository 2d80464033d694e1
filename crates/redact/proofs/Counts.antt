-- How many classes are visible. What is kept of a document is no deeper, has no more lines that count, and its plain
-- lines have texts of their kinds.
use Rattle.std.proofs.Common.{◌≡◌, ◌≤◌, ◌||◌, not, arith, ℕ, suc, ◌+◌, Bool, true, false, List, ◌∷◌, ◌++◌, cond, refl, ap, zero-add, if◌then◌else◌, ◌&&◌}
use Rattle.std.proofs.{Common.{count_by, codes, is_some, bytes_eq, [], ◌∙◌, Option, max}, lemmas.{Bool.{and_right, cond_both}, List.Sums.sum_by-append}}
use Rattle.{std.{proofs.lemmas.List.Sums.sum_by-cons, specs.List.AllByRecursion}, iodef_tree.specs.{Sound.{counted, is_label_line, class_height}, Text.Tokens}}
use Rattle.iodef_tree.specs.{Text.Bytes, Texts.{HasTexts, may_be_text}, Tree.{Forest, end, leaf, branch, steps, lines, leaf_line, class_line, Leaf, height}}
use Rattle.{iodef_tree.specs.{Walk.{walk, leaf_entry, class_entry}, declared.line.Line.Line}, marking.proofs.Bad.no_class-kind, redact.proofs.Fates.by_fate}
use Rattle.redact.{proofs.{Fates.put-keeps, Keeping.{is_seen, leaf_line-moved, class_line-moved}}, specs.{Kept.{Verdicts, Attribute}, inner.Judged.judge}}
use Rattle.redact.specs.inner.Judged.{visible_classes, judgment_at, Surrounding, inside, keeps_plain, shows_label, left_before, new_place, left_with, moved}
use Rattle.redact.specs.inner.Judged.{is_end, put_leaf, attribute_leaf, put_attributes, with_label, cut}

pub count_by-append : {X : Type 0} (test : X → Bool) (xs ys : List X) → count_by test (xs ++ ys) ≡ count_by test xs + count_by test ys
count_by-append test xs ys = sum_by-append (λ x. cond (test x) 1 0) xs ys

pub count_by-cons : {X : Type 0} (test : X → Bool) (x : X) (xs : List X) → count_by test (x ∷ xs) ≡ cond (test x) 1 0 + count_by test xs
count_by-cons test x xs = sum_by-cons (λ x. cond (test x) 1 0) x xs

-- the visible classes of the pass are those by their paths
pub count-walk : (v : Verdicts) (f : Forest) (d : ℕ) (p : Tokens) → count_by (is_seen v) (walk d p f) ≡ visible_classes (judge v p f)
count-walk v end d p = refl
count-walk v (leaf i rest) d p = rw (count_by-cons (is_seen v) (leaf_entry d p i) (walk d p rest), no_class-kind i.content, count-walk v rest d p, zero-add)
count-walk v (branch name place kids rest) d p =
    let q = p ++ steps name place in
    let K = walk (suc d) q kids in
    rw (count_by-cons (is_seen v) (class_entry d p name place) (K ++ walk d p rest), count_by-append (is_seen v) K (walk d p rest), count-walk v kids (suc d) q, count-walk v rest d p)

-- there are no more visible classes than lines that count
pub few-seen : (v : Verdicts) (f : Forest) (d : ℕ) (p : Tokens) → visible_classes (judge v p f) ≤ counted (lines d f)
few-seen v end d p = omega arith
few-seen v (leaf i rest) d p = omega (arith, few-seen v rest d p, count_by-cons (λ l. not (is_label_line l)) (leaf_line d i) (lines d rest))
few-seen v (branch name place kids rest) d p =
    let q = p ++ steps name place in
    let K = lines (suc d) kids in
    let one : ◌≡◌ {A = ℕ} (cond (not (is_label_line (class_line d name place))) 1 0) 1 = rw (and_right (not (is_some place)) false refl) in
    let at_most : (if v.visible q then 1 else 0) ≤ 1 = elim (v.visible q) as (λ b. (if b then 1 else 0) ≤ 1) [ true ↦ omega arith | false ↦ omega arith ] in
    omega (
      arith,
      few-seen v kids (suc d) q,
      few-seen v rest d p,
      one,
      at_most,
      count_by-cons (λ l. not (is_label_line l)) (class_line d name place) (K ++ lines d rest),
      count_by-append (λ l. not (is_label_line l)) K (lines d rest),
    )

-- ---- members that replace others

-- Members that replace others. They have no more classes below one another, are no deeper but for a label, have no
-- more lines that count, and have fitting texts.
pub record IsWithin (f g : Forest) : Type 0 where
  pub classes : class_height g ≤ class_height f
  pub depth : height g ≤ max (height f) (suc (class_height f))
  pub counts : (d : ℕ) → counted (lines d g) ≤ counted (lines d f)
  pub texts : HasTexts f → HasTexts g

within-self : (f : Forest) → IsWithin f f
within-self f = record { classes = omega arith; depth = omega arith; counts = λ d. omega arith; texts = λ t. t }

within-then : (f g k : Forest) → IsWithin f g → IsWithin g k → IsWithin f k
within-then f g k a b = record {
  classes = omega (arith, a.classes, b.classes);
  depth = omega (arith, a.classes, a.depth, b.depth);
  counts = λ d. omega (arith, a.counts d, b.counts d);
  texts = λ t. b.texts (a.texts t);
}

-- ---- one member more

abbrev counts : Line → Bool
counts l = not (is_label_line l)

behind-line : (l l' : Line) (ls ls' : List Line) → l' ≡ l → counted ls' ≤ counted ls → counted (l' ∷ ls') ≤ counted (l ∷ ls)
behind-line l l' ls ls' same h =
    omega (arith, h, count_by-cons counts l ls, count_by-cons counts l' ls', ap {B = ℕ} (λ x. cond (counts x) 1 0) same)

within-leaf : (i i' : Leaf) (f g : Forest) → ((d : ℕ) → leaf_line d i' ≡ leaf_line d i) → IsWithin f g → IsWithin (leaf i f) (leaf i' g)
within-leaf i i' f g same h = record {
  classes = h.classes;
  depth = omega (arith, h.depth);
  counts = λ d. behind-line (leaf_line d i) (leaf_line d i') (lines d f) (lines d g) (same d) (h.counts d);
  texts = λ t. (ap (λ (l : Line). may_be_text l.kind l.in_array l.text) (same 0) ∙ t.0, h.texts t.1);
}

within-class : (name : Bytes) (place place' : Option ℕ) (kids inner f g : Forest) → ((d : ℕ) → class_line d name place' ≡ class_line d name place) → IsWithin kids inner → IsWithin f g →
    IsWithin (branch name place kids f) (branch name place' inner g)
within-class name place place' kids inner f g same k h = record {
  classes = omega (arith, k.classes, h.classes);
  depth = omega (arith, k.depth, h.depth);
  counts = λ d. behind-line (class_line d name place) (class_line d name place') (lines (suc d) kids ++ lines d f) (lines (suc d) inner ++ lines d g) (same d)
      (omega (arith, k.counts (suc d), h.counts d, count_by-append counts (lines (suc d) kids) (lines d f), count_by-append counts (lines (suc d) inner) (lines d g)));
  texts = λ t. (k.texts t.0, h.texts t.1);
}

-- the members without the first
without-leaf : (i : Leaf) (f g : Forest) → IsWithin f g → IsWithin (leaf i f) g
without-leaf i f g h = record {
  classes = h.classes;
  depth = omega (arith, h.depth);
  counts = λ d. omega (arith, h.counts d, count_by-cons counts (leaf_line d i) (lines d f));
  texts = λ t. h.texts t.1;
}

without-class : (name : Bytes) (place : Option ℕ) (kids f g : Forest) → IsWithin f g → IsWithin (branch name place kids f) g
without-class name place kids f g h = record {
  classes = omega (arith, h.classes);
  depth = omega (arith, h.depth);
  counts = λ d. omega (arith, h.counts d, count_by-cons counts (class_line d name place) (lines (suc d) kids ++ lines d f), count_by-append counts (lines (suc d) kids) (lines d f));
  texts = λ t. h.texts t.1;
}

-- ---- a label

-- the members of a label have its names
abbrev pub AreLabelNames : List Attribute → Type 0
AreLabelNames label = AllByRecursion (λ a. (bytes_eq a.0 (codes "restriction") || bytes_eq a.0 (codes "ext-restriction")) ≡ true) label

within-put : (a : Attribute) → (bytes_eq a.0 (codes "restriction") || bytes_eq a.0 (codes "ext-restriction")) ≡ true → (f : Forest) → IsWithin f (put_leaf (attribute_leaf a) f)
within-put a named = put-keeps IsWithin (attribute_leaf a)
    (λ f. record {
      classes = omega arith;
      depth = omega arith;
      counts = λ d. omega (arith, count_by-cons counts (leaf_line d (attribute_leaf a)) (lines d f), ap {B = ℕ} (λ b. cond (not b) 1 0) named);
      texts = λ t. (refl, t);
    })
    (λ i f g h. within-leaf i i f g (λ d. refl) h)
    (λ name place kids f g h. within-class name place place kids kids f g (λ d. refl) (within-self kids) h)

within-label : (says : Bool) (label : List Attribute) (f : Forest) → AreLabelNames label → IsWithin f (if says then put_attributes label f else f)
within-label false label f names = within-self f
within-label true [] f names = within-self f
within-label true (a ∷ label) f names =
    within-then f (put_attributes label f) (put_attributes (a ∷ label) f) (within-label true label f names.1) (within-put a names.0 (put_attributes label f))

-- ---- the pass

pub within-cut : (v : Verdicts) → ((p : Tokens) → AreLabelNames (v.label p)) → (f : Forest) (h : Surrounding) (p : Tokens) (n : ℕ) → IsWithin f (cut h n (judge v p f))
within-cut v names end h p n = within-self end
within-cut v names (leaf i rest) h p n =
    cond_both (keeps_plain h) _ _ (IsWithin (leaf i rest))
    (λ _. within-leaf i (moved n i) rest _ (λ d. leaf_line-moved d n i) (within-cut v names rest h p (left_with n i.place)))
    (λ _. without-leaf i rest _ (within-cut v names rest h p (left_before n i.place)))
within-cut v names (branch name place kids rest) h p n =
    let q = p ++ steps name place in
    let K = cut (inside true) 0 (judge v q kids) in
    let same = λ (d : ℕ). class_line-moved d n name place in
    let after = within-cut v names rest h p (left_with n place) in
    by_fate (IsWithin (branch name place kids rest)) (v.visible q) (is_end (cut (inside false) 0 (judge v q kids))) _ _ _
    (within-class name place (new_place n place) kids (with_label h (judgment_at v q) K) rest _ same
    (within-then kids K (with_label h (judgment_at v q) K) (within-cut v names kids (inside true) q 0) (within-label (v.unmarked q && not (shows_label h)) (v.label q) K (names q))) after)
    (within-class name place (new_place n place) kids _ rest _ same (within-cut v names kids (inside false) q 0) after)
    (without-class name place kids rest _ (within-cut v names rest h p (left_before n place)))
