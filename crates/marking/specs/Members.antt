-- The label that the members of one class spell, read from the tree of its members.
use Rattle.std.specs.Prelude.{if◌then◌else◌, Bool, Option, codes}
use Rattle.std.specs.Str.{bytes_eq}
use Rattle.iodef_tree.specs.Text.{Bytes}
use Rattle.iodef_tree.specs.Tree.{Leaf, Forest, end, leaf, branch, holds, says, Bodies, one, many, text, value, leaf_line}
use Rattle.marking.specs.Label.{LabelValue}
use Rattle.marking.specs.Marks.{Held, absent, one_text, other, held_by_line, spelled_by, is_rule_kept}
use Rattle.marking.specs.declared.class.Found.{Found}
use Rattle.marking.specs.declared.class.Found.TheVariants as found

-- what a class holds under a name, by the program's `Found`
abbrev pub held_of : Found → Held
held_of found.Absent = absent
held_of (found.Text s) = one_text s.now
held_of found.Other = other

-- what a member holds
abbrev pub held_by_bodies : Bodies → Held
held_by_bodies (one (holds kids)) = other
held_by_bodies (one (says (text s))) = one_text s
held_by_bodies (one (says (value s))) = other
held_by_bodies (many bs) = other

-- what a plain line of the tree holds
abbrev pub held_by_leaf : Leaf → Held
held_by_leaf i = held_by_line (leaf_line 0 i)

-- what a class holds under a name, by the first member of this name
abbrev pub held_in : Bytes → Forest → Held
held_in name end = absent
held_in name (leaf i rest) = if bytes_eq i.name name then held_by_leaf i else held_in name rest
held_in name (branch n place kids rest) = if bytes_eq n name then other else held_in name rest

-- the label that the members of a class spell (RFC 7970 section 3.3.1)
abbrev pub spelled_in : Forest → Option LabelValue
spelled_in f = spelled_by (held_in (codes "restriction") f) (held_in (codes "ext-restriction") f)

-- whether the members of a class keep the marking rule
abbrev pub is_rule_kept_in : Forest → Bool
is_rule_kept_in f = is_rule_kept (held_in (codes "restriction") f) (held_in (codes "ext-restriction") f)
