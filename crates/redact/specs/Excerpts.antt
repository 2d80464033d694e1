-- The answers of `excerpt`.
use Rattle.std.specs.Prelude.{◌≡◌, true, List, if◌then◌else◌, Option, Some, None, is_some, option_map, Contains}
use Rattle.iodef_tree.specs.Paths.{LocatedLine, located}
use Rattle.iodef_tree.specs.declared.line.Line.{Line}
use Rattle.marking.specs.Marks.{label_at, first_bad_marking}
use Rattle.policy.specs.declared.standing.Standing.{Standing}
use Rattle.policy.specs.declared.case.Case.{Case}
use Rattle.redact.specs.Told.{Told, is_seen_class, excerpt_place, excerpt_of}
use Rattle.redact.specs.declared.excerpts.Excerpt.{Excerpt}

-- what an `Excerpt` of the program holds: its document by the outline, the list of what is withheld, and how many
-- classes are visible
abbrev pub told_by : Excerpt → Told
told_by e = record { outline = e.document; withheld = e.withheld.items; classes = e.classes }

-- Each visible class of the document has a place in the excerpt. The label that holds there is the one that holds at
-- the class in the document.
abbrev pub LabelsSurvive : List Line → Case → Standing → List Line → Type 0
LabelsSurvive ls c s excerpt = (e : LocatedLine) → Contains (located ls) e → is_seen_class ls c s e ≡ true →
    option_map (label_at (located excerpt)) (excerpt_place ls c s e.path) ≡ Some (label_at (located ls) e.path)

-- what is served of lines whose markings may not be accepted: nothing if they aren't, else the excerpt
abbrev pub served_of : List Line → Case → Standing → Option Told
served_of ls c s = if is_some (first_bad_marking (located ls)) then None else excerpt_of ls c s
