-- Small reports by hand, and what a reader is served of each. The definitions compute it. The readers and the cases
-- are those of the policy's examples.
use Rattle.std.specs.Prelude.{◌≡◌, ℕ, List, [], ◌∷◌, ◌++◌, map, Bool, true, false, Option, Some, None, option_map, codes}
use Rattle.iodef_tree.specs.Text.{Bytes}
use Rattle.iodef_tree.specs.Paths.{classes_of}
use Rattle.iodef_tree.specs.Pointer.{pointer_text}
use Rattle.iodef_tree.specs.declared.line.Line.{Line}
use Rattle.marking.specs.Examples.{class_line, text_line, value_line}
use Rattle.policy.specs.declared.rule.Rule.{Rule}
use Rattle.policy.specs.declared.rule.Rule.TheVariants.{G4, HRed}
use Rattle.policy.specs.declared.standing.Standing.{Standing}
use Rattle.policy.specs.declared.case.Case.{Case}
use Rattle.policy.specs.Examples.{anybody, colleague, neighbour, case_of, gate_at, event_path, behind, shared_with}
use Rattle.redact.specs.Told.{kept_outline, excerpt_place, withheld_of, visible_count, is_listed, finds}

-- ---- what a reader is served

-- the rule by which something is withheld, with the JSON pointer of a place in the excerpt
abbrev pub hidden_at : Bytes → Rule → Bytes × Rule
hidden_at pointer rule = (pointer, rule)

-- an excerpt: how many classes are visible, its lines, and the list of what is withheld
pub record Served : Type 0 where
  pub classes : ℕ
  pub lines : List Line
  pub withheld : List (Bytes × Rule)

-- the excerpt of these lines for a case and a reader
abbrev pub served : List Line → Case → Standing → Served
served ls c s = record {
  classes = visible_count ls c s;
  lines = kept_outline ls c s;
  withheld = map (λ x. hidden_at (pointer_text x.0) x.1) (withheld_of ls c s);
}

-- the pointer of each class of a report, with that of its place in the excerpt if it has one
abbrev pub places : List Line → Case → Standing → List (Bytes × Option Bytes)
places ls c s = map (λ p. (pointer_text p, option_map pointer_text (excerpt_place ls c s p))) (classes_of ls)

-- ---- reports

-- the members of an Incident that come after its EventData
abbrev pub particulars : List Line
particulars =
    text_line 2 (codes "GenerationTime") false (codes "g")
    ∷ text_line 2 (codes "IncidentID") false (codes "1")
    ∷ text_line 2 (codes "purpose") false (codes "reporting")
    ∷ []

-- the member `version` of the root
abbrev pub version : Line
version = text_line 1 (codes "version") false (codes "2.0")

-- a public Incident with two EventData; the first is red and holds a Flow
abbrev pub one_red_event : List Line
one_red_event =
    class_line 1 (codes "Incident") true
    ∷ value_line 2 (codes "Contact") false (codes "[]")
    ∷ class_line 2 (codes "EventData") true
    ∷ text_line 3 (codes "Description") true (codes "x")
    ∷ class_line 3 (codes "Flow") true
    ∷ text_line 3 (codes "restriction") false (codes "red")
    ∷ class_line 2 (codes "EventData") true
    ∷ text_line 3 (codes "Description") true (codes "y")
    ∷ particulars
    ++ text_line 2 (codes "restriction") false (codes "public")
    ∷ version
    ∷ []

-- a private Incident with two EventData, of which the second is public, and an empty class at the root
abbrev pub one_public_event : List Line
one_public_event =
    class_line 1 (codes "Incident") true
    ∷ value_line 2 (codes "Contact") false (codes "[]")
    ∷ class_line 2 (codes "EventData") true
    ∷ text_line 3 (codes "Description") true (codes "x")
    ∷ class_line 2 (codes "EventData") true
    ∷ text_line 3 (codes "Description") true (codes "y")
    ∷ text_line 3 (codes "restriction") false (codes "public")
    ∷ particulars
    ++ text_line 2 (codes "restriction") false (codes "private")
    ∷ class_line 1 (codes "a") false
    ∷ version
    ∷ []

-- a public Incident with a red Contact that holds a green mail address
abbrev pub green_mail : List Line
green_mail =
    class_line 1 (codes "Incident") true
    ∷ class_line 2 (codes "Contact") true
    ∷ text_line 3 (codes "ContactName") true (codes "n")
    ∷ class_line 3 (codes "Email") true
    ∷ text_line 4 (codes "EmailTo") false (codes "e")
    ∷ text_line 4 (codes "restriction") false (codes "green")
    ∷ text_line 3 (codes "restriction") false (codes "red")
    ∷ particulars
    ++ text_line 2 (codes "restriction") false (codes "public")
    ∷ version
    ∷ []

-- an Incident without a label
abbrev pub unmarked : List Line
unmarked =
    class_line 1 (codes "Incident") true
    ∷ class_line 2 (codes "Contact") true
    ∷ text_line 3 (codes "role") false (codes "creator")
    ∷ particulars
    ++ text_line 2 (codes "status") false (codes "new")
    ∷ version
    ∷ []

-- an Incident with a label of its own words, and an EventData without one
abbrev pub own_words : List Line
own_words =
    class_line 1 (codes "Incident") true
    ∷ class_line 2 (codes "EventData") true
    ∷ text_line 3 (codes "Description") true (codes "x")
    ∷ class_line 3 (codes "Flow") true
    ∷ text_line 4 (codes "restriction") false (codes "red")
    ∷ text_line 3 (codes "lang") false (codes "en")
    ∷ text_line 3 (codes "subtype") false (codes "t")
    ∷ text_line 2 (codes "ext-restriction") false (codes "chatham")
    ∷ text_line 2 (codes "restriction") false (codes "ext-value")
    ∷ version
    ∷ []

-- a public Incident with three EventData, of which the first is red, and with a red Assessment
abbrev pub three_events : List Line
three_events =
    class_line 1 (codes "Incident") true
    ∷ class_line 2 (codes "Assessment") true
    ∷ text_line 3 (codes "restriction") false (codes "red")
    ∷ class_line 2 (codes "EventData") true
    ∷ text_line 3 (codes "restriction") false (codes "red")
    ∷ class_line 2 (codes "EventData") true
    ∷ class_line 2 (codes "EventData") true
    ∷ text_line 2 (codes "restriction") false (codes "public")
    ∷ []

-- ---- what a reader is served of them

-- A red class is taken out with all that it holds, and its rule is listed once, at the Incident. The other EventData
-- moves up.
abbrev pub RedEventIsTakenOut : Type 0
RedEventIsTakenOut =
    served one_red_event (behind []) anybody
    ≡ record {
      classes = 2;
      lines =
          class_line 1 (codes "Incident") true
          ∷ value_line 2 (codes "Contact") false (codes "[]")
          ∷ class_line 2 (codes "EventData") true
          ∷ text_line 3 (codes "Description") true (codes "y")
          ∷ text_line 2 (codes "GenerationTime") false (codes "g")
          ∷ text_line 2 (codes "IncidentID") false (codes "1")
          ∷ text_line 2 (codes "purpose") false (codes "reporting")
          ∷ text_line 2 (codes "restriction") false (codes "public")
          ∷ text_line 1 (codes "version") false (codes "2.0")
          ∷ [];
      withheld = hidden_at (codes "/Incident/0") HRed ∷ [];
    }

-- The private Incident is left as a bare frame around its public class. Its rule is listed at its own place, and so is
-- that of the private EventData in it, which is the same rule. The rule of the private class at the root is listed at
-- the root, whose header is served.
abbrev pub FrameIsBare : Type 0
FrameIsBare =
    served one_public_event (behind []) anybody
    ≡ record {
      classes = 1;
      lines =
          class_line 1 (codes "Incident") true
          ∷ class_line 2 (codes "EventData") true
          ∷ text_line 3 (codes "Description") true (codes "y")
          ∷ text_line 3 (codes "restriction") false (codes "public")
          ∷ text_line 1 (codes "version") false (codes "2.0")
          ∷ [];
      withheld = hidden_at [] HRed ∷ hidden_at (codes "/Incident/0") HRed ∷ [];
    }

-- A frame inside a visible class is bare too. The reader is cleared for GREEN.
abbrev pub FrameInsideIsBare : Type 0
FrameInsideIsBare =
    served green_mail (behind []) neighbour
    ≡ record {
      classes = 2;
      lines =
          class_line 1 (codes "Incident") true
          ∷ class_line 2 (codes "Contact") true
          ∷ class_line 3 (codes "Email") true
          ∷ text_line 4 (codes "EmailTo") false (codes "e")
          ∷ text_line 4 (codes "restriction") false (codes "green")
          ∷ text_line 2 (codes "GenerationTime") false (codes "g")
          ∷ text_line 2 (codes "IncidentID") false (codes "1")
          ∷ text_line 2 (codes "purpose") false (codes "reporting")
          ∷ text_line 2 (codes "restriction") false (codes "public")
          ∷ text_line 1 (codes "version") false (codes "2.0")
          ∷ [];
      withheld = hidden_at (codes "/Incident/0/Contact/0") HRed ∷ [];
    }

-- The source gets its whole report. The default label is added to the Incident, in name order, and to no class in it.
abbrev pub SourceGetsAll : Type 0
SourceGetsAll =
    served unmarked (behind []) colleague
    ≡ record {
      classes = 2;
      lines =
          class_line 1 (codes "Incident") true
          ∷ class_line 2 (codes "Contact") true
          ∷ text_line 3 (codes "role") false (codes "creator")
          ∷ text_line 2 (codes "GenerationTime") false (codes "g")
          ∷ text_line 2 (codes "IncidentID") false (codes "1")
          ∷ text_line 2 (codes "purpose") false (codes "reporting")
          ∷ text_line 2 (codes "restriction") false (codes "private")
          ∷ text_line 2 (codes "status") false (codes "new")
          ∷ text_line 1 (codes "version") false (codes "2.0")
          ∷ [];
      withheld = [];
    }

-- A class that a permission shows gets the label from above, with its text, each member at its place by name.
abbrev pub LabelIsAdded : Type 0
LabelIsAdded =
    served own_words (shared_with 3) anybody
    ≡ record {
      classes = 1;
      lines =
          class_line 1 (codes "Incident") true
          ∷ class_line 2 (codes "EventData") true
          ∷ text_line 3 (codes "Description") true (codes "x")
          ∷ text_line 3 (codes "ext-restriction") false (codes "chatham")
          ∷ text_line 3 (codes "lang") false (codes "en")
          ∷ text_line 3 (codes "restriction") false (codes "ext-value")
          ∷ text_line 3 (codes "subtype") false (codes "t")
          ∷ text_line 1 (codes "version") false (codes "2.0")
          ∷ [];
      withheld = hidden_at (codes "/Incident/0") HRed ∷ hidden_at (codes "/Incident/0/EventData/0") HRed ∷ [];
    }

-- The elements of an array close up over those that are taken out, and a wholly hidden class has no place.
abbrev pub ArraysCloseUp : Type 0
ArraysCloseUp =
    places three_events (behind []) anybody
    ≡ (codes "/Incident/0", Some (codes "/Incident/0"))
    ∷ (codes "/Incident/0/Assessment/0", None)
    ∷ (codes "/Incident/0/EventData/0", None)
    ∷ (codes "/Incident/0/EventData/1", Some (codes "/Incident/0/EventData/0"))
    ∷ (codes "/Incident/0/EventData/2", Some (codes "/Incident/0/EventData/1"))
    ∷ []

-- The rule of a gate is listed at the parent of the class that it hides, besides the other rules there.
abbrev pub GateIsTold : Type 0
GateIsTold =
    served three_events (behind (gate_at event_path 4 (Some 1) ∷ [])) anybody
    ≡ record {
      classes = 3;
      lines =
          class_line 1 (codes "Incident") true
          ∷ class_line 2 (codes "EventData") true
          ∷ class_line 2 (codes "EventData") true
          ∷ text_line 2 (codes "restriction") false (codes "public")
          ∷ [];
      withheld = hidden_at (codes "/Incident/0") G4 ∷ hidden_at (codes "/Incident/0") HRed ∷ [];
    }

-- the text of a search, and the name of the classes that are searched
abbrev pub asked : Bytes → Option Bytes → Bytes × Option Bytes
asked needle class = (needle, class)

-- the answers of several searches
abbrev pub searches : List Line → Case → Standing → List (Bytes × Option Bytes) → List Bool
searches ls c s = map (λ q. finds ls c s q.0 q.1)

-- A search finds a text in a visible class, and in a class of the name that is given. It finds none in a hidden class,
-- in a frame or in the header.
abbrev pub SearchFindsWhatIsSeen : Type 0
SearchFindsWhatIsSeen =
    searches one_public_event (behind []) anybody
    (asked (codes "y") None
    ∷ asked (codes "y") (Some (codes "EventData"))
    ∷ asked (codes "y") (Some (codes "Flow"))
    ∷ asked (codes "x") None
    ∷ asked (codes "reporting") None
    ∷ asked (codes "2.0") None
    ∷ [])
    ≡ true ∷ true ∷ false ∷ false ∷ false ∷ false ∷ []

-- A search finds a text of a visible class. It doesn't find the label that the excerpt adds to that class: this is
-- stored above it, in a frame.
abbrev pub AddedLabelIsNotFound : Type 0
AddedLabelIsNotFound =
    searches own_words (shared_with 3) anybody (asked (codes "en") None ∷ asked (codes "chatham") None ∷ [])
    ≡ true ∷ false ∷ []

-- how many classes are visible, whether the report is listed, and the answers of searches
abbrev pub sight : List Line → Case → Standing → ℕ × Bool × List Bool
sight ls c s = (visible_count ls c s, is_listed ls c s, searches ls c s (asked (codes "x") None ∷ asked [] None ∷ []))

-- A reader who sees no class finds nothing, and the report isn't listed: because of the label of an unmarked report,
-- or because of a gate.
abbrev pub NothingIsSeen : Type 0
NothingIsSeen =
    sight unmarked (behind []) anybody ∷ sight one_red_event (case_of (gate_at [] 1 None ∷ []) []) anybody ∷ []
    ≡ (0, false, false ∷ false ∷ []) ∷ (0, false, false ∷ false ∷ []) ∷ []
