-- The labels that are written in a document, and the label that holds for each class (RFC 7970 sections 3.3.1 and
-- 5.1.1). Each definition reads the lines of the document with their paths.
use Rattle.std.specs.Prelude.{◌∷◌, [], List, reverse, find, Bool, true, false, not, ◌&&◌, ◌||◌, if◌then◌else◌, Option, Some, None, is_some, unwrap_or, codes}
use Rattle.std.specs.Option.{option_map_or, option_or}
use Rattle.std.specs.Str.{bytes_eq}
use Rattle.iodef_tree.specs.Text.{Bytes, Tokens, same_path, is_root, prefixes}
use Rattle.iodef_tree.specs.Paths.{LocatedLine, class_paths, has_class}
use Rattle.iodef_tree.specs.Pointer.{pointer_text}
use Rattle.iodef_tree.specs.declared.line.Line.{Line}
use Rattle.iodef_tree.specs.declared.line.Kind.{Kind}
use Rattle.marking.specs.Label.{LabelValue, private, spelled, marking_of}
use Rattle.marking.specs.declared.pass.Mark.{Mark}
use Rattle.iodef_tree.specs.declared.line.Kind.TheVariants as kind

-- What a class holds under a name: nothing, a text, or something else. An array counts as something else, even with
-- one text in it.
pub data Held : Type 0 where
  absent : Held
  one_text : Bytes → Held
  other : Held

-- what a line outside arrays holds, by its kind
abbrev pub held_by_kind : Kind → Bytes → Held
held_by_kind kind.Class text = other
held_by_kind kind.Text text = one_text text
held_by_kind kind.Value text = other

-- what one line holds; a line in an array is something else
abbrev pub held_by_line : Line → Held
held_by_line l = if l.in_array then other else held_by_kind l.kind l.text

-- whether a line has this name and is a member of the class at the path itself, not of a class below it
abbrev pub is_member : Tokens → Bytes → LocatedLine → Bool
is_member p name e = same_path e.parent p && bytes_eq e.line.name name

-- what the class at the path holds under a name, by the first line of this name in it
abbrev pub held_at : List LocatedLine → Tokens → Bytes → Held
held_at es p name = option_map_or (λ e. held_by_line e.line) (find (is_member p name) es) absent

-- what the class at the path holds as `restriction` (RFC 7970 section 3.3.1)
abbrev pub restriction_at : List LocatedLine → Tokens → Held
restriction_at es p = held_at es p (codes "restriction")

-- what the class at the path holds as `ext-restriction` (RFC 7970 section 5.1.1)
abbrev pub ext_restriction_at : List LocatedLine → Tokens → Held
ext_restriction_at es p = held_at es p (codes "ext-restriction")

-- the label that these members, `restriction` and `ext-restriction`, spell; none unless each of them that is there is
-- a text
abbrev pub spelled_by : Held → Held → Option LabelValue
spelled_by (one_text restriction) absent = spelled restriction None
spelled_by (one_text restriction) (one_text ext) = spelled restriction (Some ext)
spelled_by (one_text restriction) other = None
spelled_by absent ext = None
spelled_by other ext = None

-- neither of the two members is there
abbrev pub are_absent : Held → Held → Bool
are_absent absent absent = true
are_absent absent (one_text ext) = false
are_absent absent other = false
are_absent (one_text restriction) ext = false
are_absent other ext = false

-- the marking rule: neither of the two members is there, or they spell a label (RFC 7970 sections 3.3.1 and 5.1.1)
abbrev pub is_rule_kept : Held → Held → Bool
is_rule_kept restriction ext = are_absent restriction ext || is_some (spelled_by restriction ext)

-- whether the class at the path keeps the marking rule
abbrev pub is_well_marked : List LocatedLine → Tokens → Bool
is_well_marked es p = is_rule_kept (restriction_at es p) (ext_restriction_at es p)

-- the path of the first class, in stored order, that breaks the marking rule; the root is no class
abbrev pub first_bad_marking : List LocatedLine → Option Tokens
first_bad_marking es = find (λ p. not (is_well_marked es p)) (class_paths es)

-- The label that the class at the path spells. There is none at the root, which is no class, nor at a path without a
-- class.
abbrev pub written_label : List LocatedLine → Tokens → Option LabelValue
written_label es p = if has_class es p then spelled_by (restriction_at es p) (ext_restriction_at es p) else None

-- the path of the Incident, `/Incident/0`
abbrev pub incident_path : Tokens
incident_path = codes "Incident" ∷ codes "0" ∷ []

-- Whether the path has a default, by this hub's choice: the root, and the Incident if there is a class at its path. No
-- other class has one.
abbrev pub has_default : List LocatedLine → Tokens → Bool
has_default es p = is_root p || (same_path p incident_path && has_class es p)

-- the written label, or private if none is written and the path has a default
abbrev pub own_label : List LocatedLine → Tokens → Option LabelValue
own_label es p = option_or (written_label es p) (if has_default es p then Some private else None)

-- whether the path has a written label or a default
abbrev pub has_own_label : List LocatedLine → Tokens → Bool
has_own_label es p = is_some (own_label es p)

-- The class or root whose label holds at the path: the longest prefix of the path with an own label. The root, which
-- is the shortest, has one (RFC 7970 section 3.3.1).
abbrev pub site_of : List LocatedLine → Tokens → Tokens
site_of es p = unwrap_or (find (has_own_label es) (reverse (prefixes p))) []

-- the label that holds at the path: the own label of its site (RFC 7970 section 3.3.1)
abbrev pub label_at : List LocatedLine → Tokens → LabelValue
label_at es p = unwrap_or (own_label es (site_of es p)) private

-- how a class is marked: its path, the label that holds at it, and the site of that label; both paths as JSON pointers
pub record Marked : Type 0 where
  pub path : Bytes
  pub label : LabelValue
  pub site : Bytes

-- how the class at a path is marked, by the definitions
abbrev pub marked_at : List LocatedLine → Tokens → Marked
marked_at es p = record { path = pointer_text p; label = label_at es p; site = pointer_text (site_of es p) }

-- how a class is marked, by the program's `Mark`
abbrev pub marked_by : Mark → Marked
marked_by m = record { path = m.path.now; label = marking_of m.label; site = m.site.now }
