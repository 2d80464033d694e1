-- The highest label of an excerpt: the strictest handling of the labels that its classes spell. A class that is shown
-- spells its label, or is in a class that is shown and has the label of that class; a frame spells none.
use Rattle.std.specs.Prelude.{ℕ, suc, List, [], ◌∷◌, if◌then◌else◌, Option, Some, None, unwrap_or, codes}
use Rattle.std.specs.Str.{bytes_eq}
use Rattle.iodef_tree.specs.TreeOf.{by_depth}
use Rattle.iodef_tree.specs.Paths.{is_class_kind}
use Rattle.iodef_tree.specs.Text.{Bytes}
use Rattle.iodef_tree.specs.declared.line.Line.{Line}
use Rattle.marking.specs.Label.{LabelValue, handling_of, is_at_most}
use Rattle.marking.specs.Marks.{Held, absent, held_by_line, spelled_by}
use Rattle.marking.specs.declared.label.Handling.{Handling}
use Rattle.marking.specs.declared.label.Handling.TheVariants.{Clear, Green, Amber, Strict, Red}

-- the name of a handling as a label (FIRST TLP 2.0)
abbrev pub tlp_name : Handling → Bytes
tlp_name Clear = codes "TLP:CLEAR"
tlp_name Green = codes "TLP:GREEN"
tlp_name Amber = codes "TLP:AMBER"
tlp_name Strict = codes "TLP:AMBER+STRICT"
tlp_name Red = codes "TLP:RED"

-- What a class holds under a name, if these lines come behind its own: by the first line of this name at the depth of
-- its members, before any that is less deep.
abbrev pub held_behind : ℕ → Bytes → List Line → Held
held_behind depth name [] = absent
held_behind depth name (l ∷ ls) =
    by_depth l depth absent (if bytes_eq l.name name then held_by_line l else held_behind depth name ls) (held_behind depth name ls)

-- the label that a class spells, if these lines come behind its own (RFC 7970 sections 3.3.1 and 5.1.1)
abbrev pub spelled_behind : ℕ → List Line → Option LabelValue
spelled_behind depth ls = spelled_by (held_behind depth (codes "restriction") ls) (held_behind depth (codes "ext-restriction") ls)

-- the label that a line spells, with these lines behind it: only a class spells one
abbrev pub spelled_at : Line → List Line → Option LabelValue
spelled_at l ls = if is_class_kind l.kind then spelled_behind (suc l.depth) ls else None

-- the stricter of a handling and those before, if there are some
abbrev pub stricter : Option Handling → Handling → Handling
stricter None h = h
stricter (Some before) h = if is_at_most h before then before else h

-- the strictest handling, with one label more if there is one
abbrev pub with_label : Option Handling → Option LabelValue → Option Handling → Option Handling
with_label arranged None before = before
with_label arranged (Some m) before = Some (stricter before (handling_of m arranged))

-- the strictest handling of the labels before and of those that these lines spell
abbrev pub strictest : Option Handling → List Line → Option Handling → Option Handling
strictest arranged [] before = before
strictest arranged (l ∷ ls) before = strictest arranged ls (with_label arranged (spelled_at l ls) before)

-- the strictest handling of the labels that an outline spells, given what is arranged with the reader's organisation;
-- RED if it spells none
abbrev pub highest : Option Handling → List Line → Handling
highest arranged ls = unwrap_or (strictest arranged ls None) Red
