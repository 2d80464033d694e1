-- A document under construction, seen as the list of its lines.
use Rattle.std.specs.Prelude.{◌≡◌, ℕ, zero, suc, List, [], ◌∷◌, ◌++◌, length, Bool, true, false, not, ◌==◌, ◌&&◌, Option, Some, None}
use Rattle.std.specs.List.{AllByRecursion}
use Rattle.std.specs.Str.{bytes_eq}
use Rattle.json_pointer.specs.Text.{Bytes}
use Rattle.iodef_tree.specs.Tree.{Forest, end, leaf, branch, Body, holds, says, in_front, place_of, class_line, lines}
use Rattle.iodef_tree.specs.Sound.{SiblingPlace}
use Rattle.iodef_tree.specs.Filled.{IsMemberFilled}
use Rattle.iodef_tree.specs.Outline.{deepest, back}
use Rattle.iodef_tree.specs.View.{forest, members_forest}
use Rattle.iodef_tree.specs.declared.line.Line.{Line}
use Rattle.json_pointer.specs.declared.text.Text.{Text}
use Rattle.iodef_tree.specs.declared.object.Member.{Member}
use Rattle.iodef_tree.specs.declared.builder.Open.{Open}
use Rattle.iodef_tree.specs.declared.builder.Spine.{Spine}

-- ---- elements are numbered, and no array is right behind another of its name

-- whether a line of this name and place may follow a sibling. Place 0 may not follow an element of an array of the
-- same name; a later place follows the one before it in its array.
abbrev pub is_numbered : Option SiblingPlace → Bytes → Option ℕ → Bool
is_numbered before name None = true
is_numbered None name (Some zero) = true
is_numbered None name (Some (suc k)) = false
is_numbered (Some (n, None)) name (Some zero) = true
is_numbered (Some (n, None)) name (Some (suc k)) = false
is_numbered (Some (n, Some j)) name (Some zero) = not (bytes_eq n name)
is_numbered (Some (n, Some j)) name (Some (suc k)) = bytes_eq n name && (j == k)

-- each member of a tree, at any depth, may follow the one before it, by `is_numbered`; the first follows the sibling
-- given
abbrev pub IsNumberedBehind : Option SiblingPlace → Forest → Type 0
IsNumberedBehind before end = Unit {0}
IsNumberedBehind before (leaf i rest) = (is_numbered before i.name i.place ≡ true) × IsNumberedBehind (Some (i.name, i.place)) rest
IsNumberedBehind before (branch name place kids rest) =
    (is_numbered before name place ≡ true) × IsNumberedBehind None kids × IsNumberedBehind (Some (name, place)) rest

-- each member of a tree, at any depth, may follow the one before it, and the first may be the first of a class
abbrev pub IsNumbered : Forest → Type 0
IsNumbered f = IsNumberedBehind None f

-- each member of a class, at any depth, may follow the one before it; a plain content has no member
abbrev pub IsBodyNumbered : Body → Type 0
IsBodyNumbered (holds f) = IsNumbered f
IsBodyNumbered (says c) = Unit {0}

-- the name and place of the last sibling, or of what came before the tree if the tree is empty
abbrev pub last_place : Option SiblingPlace → Forest → Option SiblingPlace
last_place before end = before
last_place before (leaf i rest) = last_place (Some (i.name, i.place)) rest
last_place before (branch name place kids rest) = last_place (Some (name, place)) rest

-- ---- the members of one object

-- what the members of an open class keep: the tree that they make is numbered, and no array in it is empty
pub record IsGrown (ms : List (Text × Member)) : Type 0 where
  pub numbered : IsNumbered (members_forest ms)
  pub filled : AllByRecursion (λ m. IsMemberFilled m.1) ms

-- the new members are the old ones with one line, or one class and its lines, behind them
pub record Grows (old : List (Text × Member)) (name : Bytes) (in_array : Bool) (b : Body) (new : List (Text × Member)) : Type 0 where
  pub grown : IsGrown new
  pub lines : (d : ℕ) → lines d (members_forest new) ≡ lines d (members_forest old) ++ lines d (in_front name (place_of in_array 0) b end)

-- ---- the open classes

-- the line of an open class at a depth
abbrev pub open_line : ℕ → Open → Line
open_line d x = class_line d x.name (place_of x.in_array 0)

-- the lines of a class and of the open classes below it; each open class is the last member of the one above it
abbrev pub lines_down : ℕ → Forest → List Open → List Line
lines_down d f [] = lines d f
lines_down d f (x ∷ xs) = lines d f ++ open_line d x ∷ lines_down (suc d) (forest x.object) xs

-- the lines that a builder has taken so far: those of the root and of its open classes
abbrev pub lines_of : Spine → List Line
lines_of s = lines_down 1 (forest s.root) s.classes.items

-- the members of an open class keep `IsGrown`
abbrev pub IsOpenGrown : Open → Type 0
IsOpenGrown x = IsGrown x.object.members.items

-- the members of the root and of each open class keep `IsGrown`
pub record IsSpineGrown (s : Spine) : Type 0 where
  pub root : IsGrown s.root.members.items
  pub classes : AllByRecursion IsOpenGrown s.classes.items

-- the lines are the old ones with these behind them, and this many classes are open
pub record Extends (old : Spine) (more : List Line) (count : ℕ) (new : Spine) : Type 0 where
  pub grown : IsSpineGrown new
  pub lines : lines_of new ≡ lines_of old ++ more
  pub depth : length new.classes.items ≡ count

-- The members keep `IsGrown`. As many classes are open as are around the newest line, with that line if it is a class.
pub record IsBuilt (s : Spine) : Type 0 where
  pub grown : IsSpineGrown s
  pub deep : deepest (back (lines_of s)) ≡ suc (length s.classes.items)

-- the lines are the old ones with this one behind them
pub record HasLine (s : Spine) (l : Line) (u : Spine) : Type 0 where
  pub built : IsBuilt u
  pub lines : lines_of u ≡ lines_of s ++ l ∷ []
