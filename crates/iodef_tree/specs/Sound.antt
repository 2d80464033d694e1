-- What holds of the tree of each document.
use Rattle.std.specs.Prelude.{◌≡◌, ◌≤◌, ℕ, zero, suc, ◌+◌, max, List, count_by, Bool, true, false, not, ◌==◌, ◌&&◌, ◌||◌, Option, Some, None, codes}
use Rattle.std.specs.Str.{bytes_eq}
use Rattle.json_pointer.specs.Text.{Bytes, bytes_lt}
use Rattle.iodef_tree.specs.Tree.{Forest, end, leaf, branch, lines, height}
use Rattle.iodef_tree.specs.Texts.{HasTexts}
use Rattle.iodef_tree.specs.Paths.{is_class_kind}
use Rattle.iodef_tree.specs.declared.line.Line.{Line}
use Rattle.iodef_tree.specs.declared.TheConstants.{DEPTH_LIMIT, LINE_LIMIT}

-- a sibling by its name, and by its place if it is in an array
abbrev pub SiblingPlace : Type 0
SiblingPlace = Bytes × Option ℕ

-- A line may be right behind a sibling if its name is later, or if it is the next element of the same array. A line
-- with a later name is no element, or the first of its array.
abbrev pub may_stand_behind : SiblingPlace → Bytes → Option ℕ → Bool
may_stand_behind s name None = bytes_lt s.0 name
may_stand_behind s name (Some zero) = bytes_lt s.0 name
may_stand_behind (n, None) name (Some (suc k)) = false
may_stand_behind (n, Some j) name (Some (suc k)) = bytes_eq n name && (j == k)

-- the first of siblings is no element, or the element at place 0
abbrev pub may_stand_first : Option ℕ → Bool
may_stand_first None = true
may_stand_first (Some zero) = true
may_stand_first (Some (suc k)) = false

-- whether a line of this name and place may be right behind a sibling, or may be the first
abbrev pub may_stand : Option SiblingPlace → Bytes → Option ℕ → Bool
may_stand None name place = may_stand_first place
may_stand (Some s) name place = may_stand_behind s name place

-- names ascend in byte order, and the elements of an array are numbered from 0, in each class; the first sibling
-- follows the one given
abbrev pub IsOrderedBehind : Option SiblingPlace → Forest → Type 0
IsOrderedBehind before end = Unit {0}
IsOrderedBehind before (leaf i rest) = (may_stand before i.name i.place ≡ true) × IsOrderedBehind (Some (i.name, i.place)) rest
IsOrderedBehind before (branch name place kids rest) =
    (may_stand before name place ≡ true) × IsOrderedBehind None kids × IsOrderedBehind (Some (name, place)) rest

-- in each class of a tree, names ascend in byte order and the elements of an array are numbered from 0
abbrev pub IsOrdered : Forest → Type 0
IsOrdered f = IsOrderedBehind None f

-- a plain line `restriction` or `ext-restriction` outside arrays (RFC 7970 sections 3.3.1 and 5.1.1)
abbrev pub is_label_line : Line → Bool
is_label_line l = (not l.in_array && not (is_class_kind l.kind)) && (bytes_eq l.name (codes "restriction") || bytes_eq l.name (codes "ext-restriction"))

-- how many lines count for the limit. Labels do not count: an excerpt may have more of them than the stored document.
abbrev pub counted : List Line → ℕ
counted ls = count_by (λ l. not (is_label_line l)) ls

-- how many classes are one below the other
abbrev pub class_height : Forest → ℕ
class_height end = 0
class_height (leaf i rest) = class_height rest
class_height (branch name place kids rest) = max (suc (class_height kids)) (class_height rest)

-- The tree is that of a document: it is ordered, within the limits of depth and of lines, and the text of each plain
-- line is one of its kind.
pub record IsSound (f : Forest) : Type 0 where
  pub ordered : IsOrdered f
  -- a class is at most at the limit of depth, and its members are one deeper
  pub classes : class_height f ≤ DEPTH_LIMIT
  pub shallow : height f ≤ DEPTH_LIMIT + 1
  pub short : counted (lines 1 f) ≤ LINE_LIMIT
  pub texts : HasTexts f
