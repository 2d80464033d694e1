-- The lines of a document's tree are an outline.
use Rattle.std.proofs.Common.{◌≡◌, ℕ, suc, ◌+◌, ◌≤◌, ◌<◌, Bool, true, List, ◌∷◌, refl, sym, ◌∙◌, subst, arith, if◌then◌else◌, Option, Some, None, is_some}
use Rattle.{std.proofs.{Common.nat_le, lemmas.Bool.{lt-ltb, and_parts, and_from, or_left, or_right, le-leb}}, json_pointer.specs.Text.Bytes}
use Rattle.iodef_tree.proofs.{Outlines.{outline_after-append, back_onto-append}, Sounds.{as_sibling, sibling_skip, sibling_here, sibling_below}}
use Rattle.iodef_tree.{proofs.Sounds.counted-back_onto, specs.Outline.{deepest, last_sibling, may_follow, is_within_depth, is_sound_line, may_come}}
use Rattle.iodef_tree.specs.{Outline.{is_outline_after, is_outline, back_onto}, Paths.is_class_kind, Sound.{SiblingPlace, may_stand, IsOrderedBehind, counted}}
use Rattle.iodef_tree.specs.{Sound.{class_height, IsSound}, Texts.HasTexts, Tree.{Content, Forest, end, leaf, branch, kind_of, leaf_line, class_line, lines}}
use Rattle.iodef_tree.specs.{Tree.height, declared.{TheConstants.{DEPTH_LIMIT, LINE_LIMIT}, line.Line.Line}}

-- a line that may be behind a sibling follows the sibling's line
follows : (o : Option SiblingPlace) (name : Bytes) (place : Option ℕ) → may_stand o name place ≡ true → may_follow (as_sibling o) (record { name = name; in_array = is_some place }) ≡ true
follows o name place h = grind (arith, and_from, and_parts, or_left, or_right)

-- ---- how deep the next line may be

at_least : (b : Bool) (d : ℕ) → d ≤ (if b then suc d else d)
at_least b d = grind arith

deep_line : (x : Line) (before : List Line) (d : ℕ) → d ≤ x.depth → d ≤ deepest (x ∷ before)
deep_line x before d h = let a = at_least (is_class_kind x.kind) x.depth in omega (arith, h, a)

deep_past : (f : Forest) (n d : ℕ) (before : List Line) → d ≤ n → d ≤ deepest before → d ≤ deepest (back_onto (lines n f) before)
deep_past end n d before h k = k
deep_past (leaf i rest) n d before h k = deep_past rest n d (leaf_line n i ∷ before) h (deep_line (leaf_line n i) before d h)
deep_past (branch name place kids rest) n d before h k =
    let x = class_line n name place in
    subst (λ ls. d ≤ deepest ls) (sym (back_onto-append (lines (suc n) kids) (lines n rest) (x ∷ before)))
    (deep_past rest n d (back_onto (lines (suc n) kids) (x ∷ before)) h (deep_past kids (suc n) d (x ∷ before) (omega (arith, h)) (deep_line x before d h)))

-- ---- one line more

comes : (before : List Line) (l : Line) (o : Option SiblingPlace) (place : Option ℕ) → counted (l ∷ before) ≤ LINE_LIMIT → 0 < l.depth → l.depth ≤ deepest before → last_sibling l.depth before ≡ as_sibling o →
    l.in_array ≡ is_some place → may_stand o l.name place ≡ true → is_sound_line l ≡ true → may_come before l ≡ true
comes before l o place few positive reached is a stands sound = grind (arith, and_from, follows, le-leb, lt-ltb)

plain-within : (c : Content) (d : ℕ) → d ≤ DEPTH_LIMIT + 1 → nat_le d (if is_class_kind (kind_of c) then DEPTH_LIMIT else DEPTH_LIMIT + 1) ≡ true
plain-within c d h = grind (arith, le-leb)

fewer : (f : Forest) (d : ℕ) (before : List Line) → counted (back_onto (lines d f) before) ≤ LINE_LIMIT → counted before ≤ LINE_LIMIT
fewer f d before h = let a = counted-back_onto (lines d f) before in omega (arith, a, h)

-- ---- all lines

come : (f : Forest) (d : ℕ) (before : List Line) (o : Option SiblingPlace) → 0 < d → d ≤ deepest before → last_sibling d before ≡ as_sibling o → IsOrderedBehind o f → HasTexts f →
    class_height f + d ≤ DEPTH_LIMIT + 1 → height f + d ≤ DEPTH_LIMIT + 2 → counted (back_onto (lines d f) before) ≤ LINE_LIMIT → is_outline_after before (lines d f) ≡ true
come end d before o positive reached is ordered texts classes high few = refl
come (leaf i rest) d before o positive reached is ordered texts classes high few =
    let x = leaf_line d i in
    let sound : is_sound_line x ≡ true = and_from (is_within_depth x) _ (plain-within i.content d (omega (arith, high))) texts.0 in
    and_from (may_come before x) _ (comes before x o i.place (fewer rest d (x ∷ before) few) positive reached is refl ordered.0 sound)
    (come rest d (x ∷ before) (Some (i.name, i.place)) positive (deep_line x before d (omega arith)) (sibling_here x before d refl) ordered.1 texts.1 classes (omega (arith, high)) few)
come (branch n p kids rest) d before o positive reached is ordered texts classes high few =
    let x = class_line d n p in
    let inner = back_onto (lines (suc d) kids) (x ∷ before) in
    let after : counted (back_onto (lines d rest) inner) ≤ LINE_LIMIT = subst (λ ls. counted ls ≤ LINE_LIMIT) (back_onto-append (lines (suc d) kids) (lines d rest) (x ∷ before)) few in
    let few-kids : counted inner ≤ LINE_LIMIT = fewer rest d inner after in
    let sound : is_sound_line x ≡ true = and_from (is_within_depth x) _ (le-leb d DEPTH_LIMIT (omega (arith, classes))) refl in
    let below = come kids (suc d) (x ∷ before) None (omega arith) (omega arith) (sibling_below x before d refl) ordered.1 texts.0 (omega (arith, classes)) (omega (arith, high)) few-kids in
    let behind = come rest d inner (Some (n, p)) positive (deep_past kids (suc d) d (x ∷ before) (omega arith) (deep_line x before d (omega arith)))
    (sibling_skip kids (suc d) d (x ∷ before) (omega arith) ∙ sibling_here x before d refl) ordered.2 texts.1 (omega (arith, classes)) (omega (arith, high)) after in
    and_from (may_come before x) _ (comes before x o p (fewer kids (suc d) (x ∷ before) few-kids) positive reached is refl ordered.0 sound)
    (outline_after-append (lines (suc d) kids) (lines d rest) (x ∷ before) ∙ and_from (is_outline_after (x ∷ before) (lines (suc d) kids)) _ below behind)

pub lines-outline : (f : Forest) → IsSound f → is_outline (lines 1 f) ≡ true
lines-outline f h = grind (arith, come, counted-back_onto)
