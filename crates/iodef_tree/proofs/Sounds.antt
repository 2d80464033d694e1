-- A numbered tree whose lines are an outline is that of a document.
use Rattle.std.proofs.Common.{◌≡◌, ℕ, suc, ◌+◌, ◌≤◌, ◌<◌, true, List, [], ◌∷◌, refl, sym, ◌∙◌, ap, arith, if◌then◌else◌, Option, Some, None, is_some, nat_le}
use Rattle.{std.proofs.lemmas.{Bool.{and_parts, leb-true}, Grind.common_steps, List.Sums.sum_by-cons}, json_pointer.specs.Text.Bytes}
use Rattle.iodef_tree.proofs.Outlines.{outline_after-append, back_onto-append, outline-back, Came, came, above-line, at-line, past-line}
use Rattle.iodef_tree.specs.{Built.{is_numbered, IsNumberedBehind, IsNumbered}, Outline.{sibling, last_sibling, may_follow, is_within_depth, is_sound_line}}
use Rattle.iodef_tree.specs.{Outline.{may_come, is_outline_after, is_outline, is_outline_back, back_onto, back}, Paths.is_class_kind, Sound.SiblingPlace}
use Rattle.iodef_tree.specs.{Sound.{may_stand, IsOrderedBehind, counted, class_height, IsSound}, Texts.HasTexts, Tree.{Content, Forest, end, leaf, branch}}
use Rattle.iodef_tree.specs.{Tree.{kind_of, leaf_line, class_line, lines, height}, declared.{TheConstants.{DEPTH_LIMIT, LINE_LIMIT}, line.Line.Line}}
use Rattle.iodef_tree.specs.declared.shape.Sibling.{Sibling}

-- ---- the siblings of a tree among its lines

-- deeper lines are no siblings
sibling_past : (x : Line) (before : List Line) (d : ℕ) → d < x.depth → last_sibling d (x ∷ before) ≡ last_sibling d before
sibling_past x before d h = past-line x.depth d _ _ _ h

pub sibling_skip : (f : Forest) (n d : ℕ) (before : List Line) → d < n → last_sibling d (back_onto (lines n f) before) ≡ last_sibling d before
sibling_skip end n d before h = refl
sibling_skip (leaf i rest) n d before h = sibling_skip rest n d (leaf_line n i ∷ before) h ∙ sibling_past (leaf_line n i) before d h
sibling_skip (branch name place kids rest) n d before h =
    let x = class_line n name place in
    ap (last_sibling d) (back_onto-append (lines (suc n) kids) (lines n rest) (x ∷ before))
    ∙ sibling_skip rest n d (back_onto (lines (suc n) kids) (x ∷ before)) h
    ∙ sibling_skip kids (suc n) d (x ∷ before) (omega (arith, h))
    ∙ sibling_past x before d h

pub sibling_here : (x : Line) (before : List Line) (d : ℕ) → x.depth ≡ d → last_sibling d (x ∷ before) ≡ Some (sibling x)
sibling_here x before d e = at-line x.depth d _ _ _ e

pub sibling_below : (x : Line) (before : List Line) (d : ℕ) → x.depth ≡ d → last_sibling (suc d) (x ∷ before) ≡ None
sibling_below x before d e = above-line x.depth (suc d) _ _ _ (omega (arith, e))

-- ---- what each line of an outline says, on the tree

abbrev pub as_sibling : Option SiblingPlace → Option Sibling
as_sibling None = None
as_sibling (Some s) = Some (record { name = s.0; in_array = is_some s.1 })

abbrev IsFine : Option SiblingPlace → ℕ → Forest → Type 0
IsFine o d end = Unit {0}
IsFine o d (leaf i rest) = (may_follow (as_sibling o) (sibling (leaf_line d i)) ≡ true) × (is_sound_line (leaf_line d i) ≡ true) × IsFine (Some (i.name, i.place)) d rest
IsFine o d (branch n p kids rest) =
    (may_follow (as_sibling o) (sibling (class_line d n p)) ≡ true) × (is_sound_line (class_line d n p) ≡ true) × IsFine None (suc d) kids × IsFine (Some (n, p)) d rest

follows : (before : List Line) (l : Line) (o : Option Sibling) → last_sibling l.depth before ≡ o → Came before l → may_follow o (sibling l) ≡ true
follows before l o is k = ap (λ z. may_follow z (sibling l)) (sym is) ∙ k.follows

fine : (f : Forest) (d : ℕ) (before : List Line) (o : Option SiblingPlace) → last_sibling d before ≡ as_sibling o → is_outline_after before (lines d f) ≡ true → IsFine o d f
fine end d before o is h = tt
fine (leaf i rest) d before o is h =
    let x = leaf_line d i in
    let parts = and_parts (may_come before x) _ h in
    let k = came before x parts.0 in
    (follows before x (as_sibling o) is k, k.sound, fine rest d (x ∷ before) (Some (i.name, i.place)) (sibling_here x before d refl) parts.1)
fine (branch n p kids rest) d before o is h =
    let x = class_line d n p in
    let parts = and_parts (may_come before x) _ h in
    let two = and_parts (is_outline_after (x ∷ before) (lines (suc d) kids)) _ (sym (outline_after-append (lines (suc d) kids) (lines d rest) (x ∷ before)) ∙ parts.1) in
    let k = came before x parts.0 in (
      follows before x (as_sibling o) is k,
      k.sound,
      fine kids (suc d) (x ∷ before) None (sibling_below x before d refl) two.0,
      fine rest d (back_onto (lines (suc d) kids) (x ∷ before)) (Some (n, p)) (sibling_skip kids (suc d) d (x ∷ before) (omega arith) ∙ sibling_here x before d refl) two.1,
    )

-- ---- so names ascend

stands : (o : Option SiblingPlace) (name : Bytes) (place : Option ℕ) → may_follow (as_sibling o) (record { name = name; in_array = is_some place }) ≡ true → is_numbered o name place ≡ true →
    may_stand o name place ≡ true
stands o name place h k = grind arith

ordered : (f : Forest) (d : ℕ) (o : Option SiblingPlace) → IsFine o d f → IsNumberedBehind o f → IsOrderedBehind o f
ordered end d o h k = tt
ordered (leaf i rest) d o h k = (stands o i.name i.place h.0 k.0, ordered rest d (Some (i.name, i.place)) h.2 k.1)
ordered (branch n p kids rest) d o h k = (stands o n p h.0 k.0, ordered kids (suc d) None h.2 k.1, ordered rest d (Some (n, p)) h.3 k.2)

-- ---- the tree is shallow

plain-depth : (c : Content) (d : ℕ) → nat_le d (if is_class_kind (kind_of c) then DEPTH_LIMIT else DEPTH_LIMIT + 1) ≡ true → d ≤ DEPTH_LIMIT + 1
plain-depth c d h = grind (arith, leb-true)

high : (f : Forest) (d : ℕ) (o : Option SiblingPlace) → d ≤ DEPTH_LIMIT + 2 → IsFine o d f → height f + d ≤ DEPTH_LIMIT + 2
high end d o small h = omega (arith, small)
high (leaf i rest) d o small h =
    let a = plain-depth i.content d ((and_parts (is_within_depth (leaf_line d i)) _ h.1).0) in
    let b = high rest d (Some (i.name, i.place)) small h.2 in
    omega (arith, a, b)
high (branch n p kids rest) d o small h =
    let a = leb-true d DEPTH_LIMIT ((and_parts (is_within_depth (class_line d n p)) _ h.1).0) in
    let b = high kids (suc d) None (omega (arith, a)) h.2 in
    let c = high rest d (Some (n, p)) small h.3 in
    omega (arith, a, b, c)

class_high : (f : Forest) (d : ℕ) (o : Option SiblingPlace) → d ≤ DEPTH_LIMIT + 1 → IsFine o d f → class_height f + d ≤ DEPTH_LIMIT + 1
class_high end d o small h = omega (arith, small)
class_high (leaf i rest) d o small h = class_high rest d (Some (i.name, i.place)) small h.2
class_high (branch n p kids rest) d o small h =
    let a = leb-true d DEPTH_LIMIT ((and_parts (is_within_depth (class_line d n p)) _ h.1).0) in
    let b = class_high kids (suc d) None (omega (arith, a)) h.2 in
    let c = class_high rest d (Some (n, p)) small h.3 in
    omega (arith, b, c)

-- ---- its texts are what they may be

texts : (f : Forest) (d : ℕ) (o : Option SiblingPlace) → IsFine o d f → HasTexts f
texts end d o h = tt
texts (leaf i rest) d o h = ((and_parts (is_within_depth (leaf_line d i)) _ h.1).1, texts rest d (Some (i.name, i.place)) h.2)
texts (branch n p kids rest) d o h = (texts kids (suc d) None h.2, texts rest d (Some (n, p)) h.3)

-- ---- it is short

pub counted-back_onto : (xs ys : List Line) → counted (back_onto xs ys) ≡ counted xs + counted ys
counted-back_onto [] ys = omega arith
counted-back_onto (x ∷ xs) ys = grind (arith, common_steps, sum_by-cons, (counted-back_onto xs (x ∷ ys)))

short_back : (ls : List Line) → is_outline_back ls ≡ true → counted ls ≤ LINE_LIMIT
short_back [] h = omega arith
short_back (l ∷ before) h = leb-true (counted (l ∷ before)) LINE_LIMIT (came before l ((and_parts (may_come before l) _ h).0)).short

pub outline-short : (ls : List Line) → is_outline ls ≡ true → counted ls ≤ LINE_LIMIT
outline-short ls h =
    let a = short_back (back ls) (outline-back ls ∙ h) in
    let b = counted-back_onto ls [] in
    omega (arith, a, b)

pub outline-sound : (f : Forest) → is_outline (lines 1 f) ≡ true → IsNumbered f → IsSound f
outline-sound f h k =
    let all : IsFine None 1 f = fine f 1 [] None refl h in
    let tall = high f 1 None (omega arith) all in
    let deep = class_high f 1 None (omega arith) all in
    record {
      ordered = ordered f 1 None all k;
      classes = omega (arith, deep);
      shallow = omega (arith, tall);
      short = outline-short (lines 1 f) h;
      texts = texts f 1 None all;
    }
