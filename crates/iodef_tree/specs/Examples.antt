-- Three small bodies by their JSON values, and the lines of the one document of each; and the lines of a document, with
-- its JSON object and its paths. The definitions compute them.
use Rattle.std.specs.Prelude.{◌≡◌, ℕ, List, [], ◌∷◌, map, Bool, true, false, codes}
use Rattle.serde_json.specs.Data.{Data, string, number, unsigned, array, object, no_items, no_members}
use Rattle.json_pointer.specs.Pointer.{pointer_text}
use Rattle.json_pointer.specs.Text.{Bytes}
use Rattle.iodef_tree.specs.Json.{data_of}
use Rattle.iodef_tree.specs.Paths.{located}
use Rattle.iodef_tree.specs.Tree.{lines}
use Rattle.iodef_tree.specs.Values.{forest_of_data}
use Rattle.iodef_tree.specs.Walk.{walked}
use Rattle.iodef_tree.specs.declared.line.Line.{Line}
use Rattle.iodef_tree.specs.declared.line.Kind.{Kind}
use Rattle.serde_json.specs.Data as json
use Rattle.iodef_tree.specs.declared.line.Kind.TheVariants as kind

-- a line made of its parts
abbrev pub line : ℕ → Bytes → Bool → Kind → Bytes → Line
line d name in_array k text = record { depth = d; name = name; in_array = in_array; kind = k; text = text }

-- a member in front of others, as `serde_json` reads an object
abbrev pub member : Bytes → Data → json.Members → json.Members
member name d rest = json.member name d rest

-- an element in front of others, as `serde_json` reads an array
abbrev pub item : Data → json.Items → json.Items
item d rest = json.item d rest

-- A body with an empty class in an array, and an array of a text, a number and an array: each element has its own
-- line.
abbrev pub ArraysAreSpread : Type 0
ArraysAreSpread =
    lines 1 (forest_of_data (
    member (codes "Incident") (array (item (object (
    member (codes "Contact") (array (item (object no_members) no_items)) (
    member (codes "GenerationTime") (string (codes "g")) (
    member (codes "IncidentID") (string (codes "1")) (
    member (codes "Note") (array (item (string (codes "p")) (item (number (unsigned 7)) (item (array no_items) no_items)))) (
    member (codes "purpose") (string (codes "q")) no_members)))))) no_items)) (
    member (codes "a") (array no_items) no_members)))
    ≡ line 1 (codes "Incident") true kind.Class []
    ∷ line 2 (codes "Contact") true kind.Class []
    ∷ line 2 (codes "GenerationTime") false kind.Text (codes "g")
    ∷ line 2 (codes "IncidentID") false kind.Text (codes "1")
    ∷ line 2 (codes "Note") true kind.Text (codes "p")
    ∷ line 2 (codes "Note") true kind.Value (codes "7")
    ∷ line 2 (codes "Note") true kind.Value (codes "[]")
    ∷ line 2 (codes "purpose") false kind.Text (codes "q")
    ∷ line 1 (codes "a") false kind.Value (codes "[]")
    ∷ []

-- A body whose Incident has no labels: the line of a class comes before those of its members.
abbrev pub ClassesStandInFrontOfTheirMembers : Type 0
ClassesStandInFrontOfTheirMembers =
    lines 1 (forest_of_data (
    member (codes "Incident") (array (item (object (
    member (codes "Contact") (array (item (object (
    member (codes "role") (string (codes "creator")) (
    member (codes "type") (string (codes "organization")) no_members))) no_items)) (
    member (codes "GenerationTime") (string (codes "2024-01-01T00:00:00Z")) (
    member (codes "IncidentID") (object (
    member (codes "id") (string (codes "1")) (
    member (codes "name") (string (codes "src.example")) no_members))) (
    member (codes "purpose") (string (codes "reporting")) no_members))))) no_items)) (
    member (codes "version") (string (codes "2.0")) no_members)))
    ≡ line 1 (codes "Incident") true kind.Class []
    ∷ line 2 (codes "Contact") true kind.Class []
    ∷ line 3 (codes "role") false kind.Text (codes "creator")
    ∷ line 3 (codes "type") false kind.Text (codes "organization")
    ∷ line 2 (codes "GenerationTime") false kind.Text (codes "2024-01-01T00:00:00Z")
    ∷ line 2 (codes "IncidentID") false kind.Class []
    ∷ line 3 (codes "id") false kind.Text (codes "1")
    ∷ line 3 (codes "name") false kind.Text (codes "src.example")
    ∷ line 2 (codes "purpose") false kind.Text (codes "reporting")
    ∷ line 1 (codes "version") false kind.Text (codes "2.0")
    ∷ []

-- A body with two classes in one array, and labels: the lines of the first class come before those of the second.
abbrev pub ElementsFollowOneAnother : Type 0
ElementsFollowOneAnother =
    lines 1 (forest_of_data (
    member (codes "Incident") (array (item (object (
    member (codes "Contact") (array no_items) (
    member (codes "EventData") (array (
    item (object (
    member (codes "Description") (array (item (string (codes "x")) no_items)) (
    member (codes "restriction") (string (codes "amber")) no_members))) (
    item (object (
    member (codes "Description") (array (item (string (codes "y")) no_items)) (
    member (codes "ext-restriction") (string (codes "TLP:AMBER")) (
    member (codes "restriction") (string (codes "ext-value")) no_members)))) no_items))) (
    member (codes "GenerationTime") (string (codes "g")) (
    member (codes "IncidentID") (string (codes "4")) (
    member (codes "purpose") (string (codes "reporting")) (
    member (codes "restriction") (string (codes "public")) no_members))))))) no_items)) (
    member (codes "version") (string (codes "2.0")) no_members)))
    ≡ line 1 (codes "Incident") true kind.Class []
    ∷ line 2 (codes "Contact") false kind.Value (codes "[]")
    ∷ line 2 (codes "EventData") true kind.Class []
    ∷ line 3 (codes "Description") true kind.Text (codes "x")
    ∷ line 3 (codes "restriction") false kind.Text (codes "amber")
    ∷ line 2 (codes "EventData") true kind.Class []
    ∷ line 3 (codes "Description") true kind.Text (codes "y")
    ∷ line 3 (codes "ext-restriction") false kind.Text (codes "TLP:AMBER")
    ∷ line 3 (codes "restriction") false kind.Text (codes "ext-value")
    ∷ line 2 (codes "GenerationTime") false kind.Text (codes "g")
    ∷ line 2 (codes "IncidentID") false kind.Text (codes "4")
    ∷ line 2 (codes "purpose") false kind.Text (codes "reporting")
    ∷ line 2 (codes "restriction") false kind.Text (codes "public")
    ∷ line 1 (codes "version") false kind.Text (codes "2.0")
    ∷ []

-- a document with two Contacts in one array, of which the second is empty, and an array of a text and a number
abbrev pub two_contacts : List Line
two_contacts =
    line 1 (codes "Incident") true kind.Class []
    ∷ line 2 (codes "Contact") true kind.Class []
    ∷ line 3 (codes "role") false kind.Text (codes "creator")
    ∷ line 2 (codes "Contact") true kind.Class []
    ∷ line 2 (codes "IncidentID") false kind.Class []
    ∷ line 3 (codes "id") false kind.Text (codes "1")
    ∷ line 2 (codes "Note") true kind.Text (codes "p")
    ∷ line 2 (codes "Note") true kind.Value (codes "7")
    ∷ line 1 (codes "version") false kind.Text (codes "2.0")
    ∷ []

-- The lines of an array are its elements again, and those one deeper are the members of a class.
abbrev pub ElementsJoinTheirArray : Type 0
ElementsJoinTheirArray =
    data_of two_contacts
    ≡ member (codes "Incident") (array (item (object (
    member (codes "Contact") (array (
    item (object (member (codes "role") (string (codes "creator")) no_members)) (
    item (object no_members) no_items))) (
    member (codes "IncidentID") (object (member (codes "id") (string (codes "1")) no_members)) (
    member (codes "Note") (array (item (string (codes "p")) (item (number (unsigned 7)) no_items))) no_members)))) no_items)) (
    member (codes "version") (string (codes "2.0")) no_members)

-- the paths of these lines
abbrev pub paths_of_two_contacts : List Bytes
paths_of_two_contacts =
    codes "/Incident/0"
    ∷ codes "/Incident/0/Contact/0"
    ∷ codes "/Incident/0/Contact/0/role"
    ∷ codes "/Incident/0/Contact/1"
    ∷ codes "/Incident/0/IncidentID"
    ∷ codes "/Incident/0/IncidentID/id"
    ∷ codes "/Incident/0/Note/0"
    ∷ codes "/Incident/0/Note/1"
    ∷ codes "/version"
    ∷ []

-- A walk down the tree of a document and a look back from each line find the same paths.
pub record PathsAreFound : Type 0 where
  pub by_walk : map (λ e. pointer_text e.path) (walked two_contacts) ≡ paths_of_two_contacts
  pub by_lines : map (λ e. pointer_text e.path) (located two_contacts) ≡ paths_of_two_contacts
