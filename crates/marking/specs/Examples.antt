-- Three small reports by their lines, and how their classes are marked. The definitions compute it.
use Rattle.std.specs.Prelude.{◌≡◌, ℕ, List, [], ◌∷◌, map, Bool, true, false, codes}
use Rattle.iodef_tree.specs.Text.{Bytes}
use Rattle.iodef_tree.specs.Paths.{located, class_paths}
use Rattle.iodef_tree.specs.declared.line.Line.{Line}
use Rattle.marking.specs.Label.{LabelValue, public, amber, private, extended}
use Rattle.marking.specs.Marks.{Marked, marked_at}
use Rattle.iodef_tree.specs.declared.line.Kind.TheVariants as kind

-- the line of a class
abbrev pub class_line : ℕ → Bytes → Bool → Line
class_line d name in_array = record { depth = d; name = name; in_array = in_array; kind = kind.Class; text = [] }

-- the line of a text
abbrev pub text_line : ℕ → Bytes → Bool → Bytes → Line
text_line d name in_array text = record { depth = d; name = name; in_array = in_array; kind = kind.Text; text = text }

-- the line of any other plain value
abbrev pub value_line : ℕ → Bytes → Bool → Bytes → Line
value_line d name in_array text = record { depth = d; name = name; in_array = in_array; kind = kind.Value; text = text }

-- how a class is marked, by the pointers of the class and of its site
abbrev pub marked : Bytes → LabelValue → Bytes → Marked
marked path label site = record { path = path; label = label; site = site }

-- how each class of an outline is marked, in stored order
abbrev pub marks_of : List Line → List Marked
marks_of ls = let es = located ls in map (marked_at es) (class_paths es)

-- In a report without labels, each class is private, by the default of the Incident.
abbrev pub UnmarkedIsPrivate : Type 0
UnmarkedIsPrivate =
    marks_of (
    class_line 1 (codes "Incident") true
    ∷ class_line 2 (codes "Contact") true
    ∷ text_line 3 (codes "role") false (codes "creator")
    ∷ text_line 3 (codes "type") false (codes "organization")
    ∷ text_line 2 (codes "GenerationTime") false (codes "2024-01-01T00:00:00Z")
    ∷ class_line 2 (codes "IncidentID") false
    ∷ text_line 3 (codes "id") false (codes "1")
    ∷ text_line 3 (codes "name") false (codes "src.example")
    ∷ text_line 2 (codes "purpose") false (codes "reporting")
    ∷ text_line 1 (codes "version") false (codes "2.0")
    ∷ [])
    ≡ marked (codes "/Incident/0") private (codes "/Incident/0")
    ∷ marked (codes "/Incident/0/Contact/0") private (codes "/Incident/0")
    ∷ marked (codes "/Incident/0/IncidentID") private (codes "/Incident/0")
    ∷ []

-- In a report with labels at two depths, the nearest label holds. A `restriction` at the root marks nothing.
abbrev pub NearestLabelHolds : Type 0
NearestLabelHolds =
    marks_of (
    class_line 1 (codes "Incident") true
    ∷ value_line 2 (codes "Contact") false (codes "[]")
    ∷ class_line 2 (codes "EventData") true
    ∷ text_line 3 (codes "Description") true (codes "x")
    ∷ text_line 3 (codes "restriction") false (codes "amber")
    ∷ class_line 2 (codes "EventData") true
    ∷ text_line 3 (codes "Description") true (codes "y")
    ∷ text_line 3 (codes "ext-restriction") false (codes "TLP:AMBER")
    ∷ text_line 3 (codes "restriction") false (codes "ext-value")
    ∷ text_line 2 (codes "GenerationTime") false (codes "g")
    ∷ text_line 2 (codes "IncidentID") false (codes "4")
    ∷ text_line 2 (codes "purpose") false (codes "reporting")
    ∷ text_line 2 (codes "restriction") false (codes "public")
    ∷ class_line 1 (codes "a") false
    ∷ text_line 1 (codes "restriction") false (codes "public")
    ∷ text_line 1 (codes "version") false (codes "2.0")
    ∷ [])
    ≡ marked (codes "/Incident/0") public (codes "/Incident/0")
    ∷ marked (codes "/Incident/0/EventData/0") amber (codes "/Incident/0/EventData/0")
    ∷ marked (codes "/Incident/0/EventData/1") (extended (codes "TLP:AMBER")) (codes "/Incident/0/EventData/1")
    ∷ marked (codes "/a") private []
    ∷ []

-- In a report with an array of texts and values, only the classes are marked.
abbrev pub PlainLinesAreNoClasses : Type 0
PlainLinesAreNoClasses =
    marks_of (
    class_line 1 (codes "Incident") true
    ∷ class_line 2 (codes "Contact") true
    ∷ text_line 2 (codes "GenerationTime") false (codes "g")
    ∷ text_line 2 (codes "IncidentID") false (codes "1")
    ∷ text_line 2 (codes "Note") true (codes "p")
    ∷ value_line 2 (codes "Note") true (codes "7")
    ∷ value_line 2 (codes "Note") true (codes "[]")
    ∷ text_line 2 (codes "purpose") false (codes "q")
    ∷ value_line 1 (codes "a") false (codes "[]")
    ∷ [])
    ≡ marked (codes "/Incident/0") private (codes "/Incident/0")
    ∷ marked (codes "/Incident/0/Contact/0") private (codes "/Incident/0")
    ∷ []
