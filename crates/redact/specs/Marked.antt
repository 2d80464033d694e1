-- The marking rule of lines that come one at a time. Of each open class is kept what it holds as `restriction` and as
-- `ext-restriction`, as far as the rule asks.
use Rattle.std.specs.Prelude.{◌≡◌, ℕ, ◌-◌, Bool, true, false, not, ◌&&◌, ◌||◌, List, [], ◌∷◌, ◌++◌, take, drop, if◌then◌else◌, Some, None, is_some, codes}
use Rattle.std.specs.List.{list_all}
use Rattle.std.specs.Str.{bytes_eq}
use Rattle.iodef_tree.specs.Text.{Bytes}
use Rattle.iodef_tree.specs.Paths.{is_class_kind, located}
use Rattle.iodef_tree.specs.Outline.{is_outline}
use Rattle.marking.specs.Marks.{first_bad_marking}
use Rattle.iodef_tree.specs.declared.line.Line.{Line}
use Rattle.iodef_tree.specs.declared.line.Kind.{Kind}
use Rattle.marking.specs.Label.{spelled}
use Rattle.redact.specs.declared.marks.Restriction.{Restriction}
use Rattle.redact.specs.declared.marks.Extension.{Extension}
use Rattle.redact.specs.declared.marks.Marking.{Marking}
use Rattle.redact.specs.declared.marks.Marks.{Marks}
use Rattle.iodef_tree.specs.declared.line.Kind.TheVariants as kind
use Rattle.redact.specs.declared.marks.Restriction.TheVariants as restriction
use Rattle.redact.specs.declared.marks.Extension.TheVariants as extension

-- what a text is as `restriction`: it spells a label by itself, or with a text beside it, or not at all
abbrev pub brief_text : Bytes → Restriction
brief_text t =
    if is_some (spelled t None) then restriction.Label
    else if is_some (spelled t (Some [])) then restriction.Extended
    else restriction.Other

-- what a line outside arrays with the name `restriction` is, by its kind and its text
abbrev pub brief_kind : Kind → Bytes → Restriction
brief_kind kind.Class t = restriction.Other
brief_kind kind.Text t = brief_text t
brief_kind kind.Value t = restriction.Other

-- what a line with the name `restriction` is
abbrev pub brief : Line → Restriction
brief l = if l.in_array then restriction.Other else brief_kind l.kind l.text

-- what a line outside arrays is as `ext-restriction`: a text or something else
abbrev pub extension_kind : Kind → Extension
extension_kind kind.Class = extension.Other
extension_kind kind.Text = extension.Text
extension_kind kind.Value = extension.Other

-- what a line with the name `ext-restriction` is
abbrev pub extension_brief : Line → Extension
extension_brief l = if l.in_array then extension.Other else extension_kind l.kind

-- what a class holds as `restriction` after one more line of this name: the first counts, a later one changes nothing
abbrev pub first_restriction : Restriction → Restriction → Restriction
first_restriction restriction.Absent r = r
first_restriction r r' = r

-- what a class holds as `ext-restriction` after one more line of this name: the first counts
abbrev pub first_extension : Extension → Extension → Extension
first_extension extension.Absent e = e
first_extension e e' = e

-- what is kept of a class without members
abbrev pub no_marking : Marking
no_marking = record { restriction = restriction.Absent; extension = extension.Absent }

-- what a class holds as `restriction` after one more member
abbrev pub restriction_with : Line → Restriction → Restriction
restriction_with l r = if bytes_eq l.name (codes "restriction") then first_restriction r (brief l) else r

-- what a class holds as `ext-restriction` after one more member
abbrev pub extension_with : Line → Extension → Extension
extension_with l e = if bytes_eq l.name (codes "ext-restriction") then first_extension e (extension_brief l) else e

-- what is kept of a class after one more member
abbrev pub held_with : Line → Marking → Marking
held_with l m = record { restriction = restriction_with l m.restriction; extension = extension_with l m.extension }

-- whether a class with these two keeps the marking rule, if no more members come
abbrev pub are_fine : Restriction → Extension → Bool
are_fine restriction.Absent extension.Absent = true
are_fine restriction.Label extension.Absent = true
are_fine restriction.Label extension.Text = true
are_fine restriction.Extended extension.Text = true
are_fine r e = false

-- whether a class of which this is kept keeps the marking rule, if no more members come
abbrev pub is_fine : Marking → Bool
is_fine m = are_fine m.restriction m.extension

-- ---- all open classes, from the outermost on

-- the open classes, and whether a class that is closed breaks the marking rule
pub record Markings : Type 0 where
  pub classes : List Marking
  pub broken : Bool

-- the open classes, and whether a closed one breaks the marking rule, of the program's `Marks`
abbrev pub marks_of : Marks → Markings
marks_of m = record { classes = m.classes.items; broken = m.broken }

-- what is kept before the first line
abbrev pub none_noted : Markings
none_noted = record { classes = []; broken = false }

-- the state after all but so many classes are closed; each closed class is asked for the marking rule
abbrev pub closed_to : ℕ → Markings → Markings
closed_to n m = record { classes = take n m.classes; broken = m.broken || not (list_all is_fine (drop n m.classes)) }

-- the open classes after one more member of the innermost
abbrev pub innermost_held_with : Line → List Marking → List Marking
innermost_held_with l [] = []
innermost_held_with l (x ∷ []) = held_with l x ∷ []
innermost_held_with l (x ∷ y ∷ xs) = x ∷ innermost_held_with l (y ∷ xs)

-- the open classes behind this line: if it is a class, that class is open too
abbrev pub with_opened_marking : Line → List Marking → List Marking
with_opened_marking l xs = if is_class_kind l.kind then xs ++ no_marking ∷ [] else xs

-- the state after one more line
abbrev pub with_marked_line : Markings → Line → Markings
with_marked_line m l = let k = closed_to (l.depth - 1) m in record { classes = with_opened_marking l (innermost_held_with l k.classes); broken = k.broken }

-- the state after several lines
abbrev pub with_marked_lines : Markings → List Line → Markings
with_marked_lines m [] = m
with_marked_lines m (l ∷ ls) = with_marked_lines (with_marked_line m l) ls

-- whether every class keeps the marking rule, if no more lines come
abbrev pub is_accepted : Markings → Bool
is_accepted m = not m.broken && list_all is_fine m.classes

-- The law that the state after the lines of an outline says whether the marking rule is kept.
abbrev pub NotedIsAccepted : Type 0
NotedIsAccepted = (ls : List Line) → is_outline ls ≡ true →
    is_accepted (with_marked_lines none_noted ls) ≡ not (is_some (first_bad_marking (located ls)))
