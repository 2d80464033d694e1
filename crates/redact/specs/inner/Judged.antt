-- A document with what is decided of each class, and one pass down it. A definition of what is kept judges each line
-- by itself; the pass works on the tree, and proofs join the two.
use Rattle.std.specs.Prelude.{ℕ, zero, suc, ◌+◌, Bool, true, false, ◌&&◌, not, List, [], ◌∷◌, ◌++◌, if◌then◌else◌, Option, Some, None}
use Rattle.iodef_tree.specs.Text.{Bytes, Tokens, bytes_lt, is_root}
use Rattle.iodef_tree.specs.Tree.{Leaf, Forest, end, leaf, branch, steps, text}
use Rattle.policy.specs.declared.rule.Rule.{Rule}
use Rattle.redact.specs.Kept.{Attribute, Verdicts}
use Rattle.redact.specs.Withheld.{Withheld}

-- what is decided of one class
pub record Judgment : Type 0 where
  pub visible : Bool
  pub unmarked : Bool
  pub label : List Attribute
  pub rule : Rule

-- the members of an object, each class with what is decided of it
pub data Judged : Type 0 where
  none : Judged
  plain : Leaf → Judged → Judged
  class : Bytes → Option ℕ → Judgment → Judged → Judged → Judged

-- what is decided of the class at a path
abbrev pub judgment_at : Verdicts → Tokens → Judgment
judgment_at v p = record { visible = v.visible p; unmarked = v.unmarked p; label = v.label p; rule = v.rule p }

-- the members of the class at p, each class judged by its path
abbrev pub judge : Verdicts → Tokens → Forest → Judged
judge v p end = none
judge v p (leaf i rest) = plain i (judge v p rest)
judge v p (branch name place kids rest) =
    let q = p ++ steps name place in class name place (judgment_at v q) (judge v q kids) (judge v p rest)

-- where members are: in the root, or in a class that is visible or not
pub data Surrounding : Type 0 where
  root : Surrounding
  inside : Bool → Surrounding

-- whether plain members are served there
abbrev pub keeps_plain : Surrounding → Bool
keeps_plain root = true
keeps_plain (inside visible) = visible

-- whether it is a visible class, whose label shows in the excerpt
abbrev pub shows_label : Surrounding → Bool
shows_label root = false
shows_label (inside visible) = visible

-- where the members of the class at p are
abbrev pub home_at : Verdicts → Tokens → Surrounding
home_at v p = if is_root p then root else inside (v.visible p)

-- How many elements of its array are kept before the next sibling. An element at place 0 begins an array.
abbrev pub left_before : ℕ → Option ℕ → ℕ
left_before n None = 0
left_before n (Some zero) = 0
left_before n (Some (suc k)) = n

-- the place among those that are kept
abbrev pub new_place : ℕ → Option ℕ → Option ℕ
new_place n None = None
new_place n (Some zero) = Some 0
new_place n (Some (suc k)) = Some n

-- how many are kept, once the sibling is kept too
abbrev pub left_with : ℕ → Option ℕ → ℕ
left_with n None = 0
left_with n (Some k) = suc (left_before n (Some k))

-- a plain member at its place among those that are kept
abbrev pub moved : ℕ → Leaf → Leaf
moved n i = record { name = i.name; place = new_place n i.place; content = i.content }

-- whether there is no member
abbrev pub is_end : Forest → Bool
is_end end = true
is_end (leaf i rest) = false
is_end (branch name place kids rest) = false

-- members with a plain member put at its place in name order
abbrev pub put_leaf : Leaf → Forest → Forest
put_leaf x end = leaf x end
put_leaf x (leaf i rest) = if bytes_lt x.name i.name then leaf x (leaf i rest) else leaf i (put_leaf x rest)
put_leaf x (branch name place kids rest) =
    if bytes_lt x.name name then leaf x (branch name place kids rest) else branch name place kids (put_leaf x rest)

-- a plain member that is a text
abbrev pub attribute_leaf : Attribute → Leaf
attribute_leaf a = record { name = a.0; place = None; content = text a.1 }

-- members with several plain members put in
abbrev pub put_attributes : List Attribute → Forest → Forest
put_attributes [] f = f
put_attributes (a ∷ rest) f = put_leaf (attribute_leaf a) (put_attributes rest f)

-- the members of a visible class, with its label if it has to say it itself
abbrev pub with_label : Surrounding → Judgment → Forest → Forest
with_label h j inner = if j.unmarked && not (shows_label h) then put_attributes j.label inner else inner

-- What is kept of the members of a class, with so many elements of an array kept before them. A class that isn't
-- visible is decided when it is known what is kept below it.
abbrev pub cut : Surrounding → ℕ → Judged → Forest
cut h n none = end
cut h n (plain i rest) =
    if keeps_plain h then leaf (moved n i) (cut h (left_with n i.place) rest) else cut h (left_before n i.place) rest
cut h n (class name place j kids rest) =
    let behind = cut h (left_with n place) rest in
    if j.visible then branch name (new_place n place) (with_label h j (cut (inside true) 0 kids)) behind
    else (let inner = cut (inside false) 0 kids in if is_end inner then cut h (left_before n place) rest
    else branch name (new_place n place) inner behind)

-- how many classes are visible
abbrev pub visible_classes : Judged → ℕ
visible_classes none = 0
visible_classes (plain i rest) = visible_classes rest
visible_classes (class name place j kids rest) =
    (if j.visible then 1 else 0) + (visible_classes kids + visible_classes rest)

-- what is withheld of the members of a class whose place in the excerpt is q
abbrev pub withheld_below : Surrounding → Tokens → ℕ → Judged → List Withheld
withheld_below h q n none = []
withheld_below h q n (plain i rest) =
    withheld_below h q (if keeps_plain h then left_with n i.place else left_before n i.place) rest
withheld_below h q n (class name place j kids rest) =
    let r = q ++ steps name (new_place n place) in
    if j.visible then withheld_below (inside true) r 0 kids ++ withheld_below h q (left_with n place) rest
    else (if is_end (cut (inside false) 0 kids) then (q, j.rule) ∷ withheld_below h q (left_before n place) rest
    else (r, j.rule) ∷ (withheld_below (inside false) r 0 kids ++ withheld_below h q (left_with n place) rest))

-- the kept classes among the members of the class at p, whose place is q: the path of each with its place
abbrev pub places : Surrounding → Tokens → Tokens → ℕ → Judged → List (Tokens × Tokens)
places h p q n none = []
places h p q n (plain i rest) = places h p q (if keeps_plain h then left_with n i.place else left_before n i.place) rest
places h p q n (class name place j kids rest) =
    let p' = p ++ steps name place in
    let r = q ++ steps name (new_place n place) in
    if j.visible then (p', r) ∷ (places (inside true) p' r 0 kids ++ places h p q (left_with n place) rest)
    else (if is_end (cut (inside false) 0 kids) then places h p q (left_before n place) rest
    else (p', r) ∷ (places (inside false) p' r 0 kids ++ places h p q (left_with n place) rest))
