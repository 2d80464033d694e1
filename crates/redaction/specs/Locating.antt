-- The first fault of a view description and a report, with its place.
use Rattle.std.specs.Prelude.{ℕ, ◌+◌, List, [], ◌∷◌, ◌++◌, Bool, false, not, ◌&&◌, if◌then◌else◌, Option, Some, None, option_map, slice_get, slice_set, Result}
use Rattle.std.specs.Prelude.{Ok, Err, codes, decimal}
use Rattle.std.specs.List.{position_from}
use Rattle.std.specs.Option.{option_or, option_map_or}
use Rattle.std.specs.Str.{bytes_eq}
use Rattle.json.specs.Json.{Json}
use Rattle.iodef_tree.specs.Text.{Bytes, Tokens}
use Rattle.iodef_tree.specs.Paths.{LocatedLine, located}
use Rattle.iodef_tree.specs.Pointer.{pointer_text}
use Rattle.iodef_tree.specs.Reading.{reading, required_name}
use Rattle.iodef_tree.specs.declared.fault.ReadFault.{ReadFault}
use Rattle.iodef_tree.specs.declared.line.Line.{Line}
use Rattle.marking.specs.Marks.{first_bad_marking}
use Rattle.policy.specs.declared.case.Case.{Case}
use Rattle.redaction.specs.Asked.{gate_stands, permission_stands}
use Rattle.redaction.specs.Described.{described_at, undoubled}
use Rattle.redaction.specs.Faults.{fault_number, of_report}
use Rattle.redaction.specs.Places.{part_name, tokens_at}
use Rattle.redaction.specs.Readings.{Reading}
use Rattle.redaction.specs.declared.place.Part.{Part}
use Rattle.redaction.specs.declared.place.Place.{Place}
use Rattle.redaction.specs.declared.place.Refusal.{Refusal}
use Rattle.redaction.specs.declared.locating.Found.{Found}
use Rattle.redaction.specs.declared.view.View.{View}
use Rattle.redaction.specs.declared.fault.Fault.{Fault}
use Rattle.redaction.specs.declared.fault.Fault.TheVariants.{BadMarking, NoIncident, NoClass}
use Rattle.iodef_tree.specs.declared.fault.ReadFault.TheVariants as read
use Rattle.redaction.specs.declared.place.Part.TheVariants as part

-- a fault, and the reference tokens of its place
abbrev pub Told : Type 0
Told = Fault × Tokens

-- what the program's `Found` holds
abbrev pub found : Found → Told
found f = (f.fault, f.place)

-- ---- in the view description

-- the tokens of a place in a value that was read; none if it wasn't
abbrev pub tokens_in : Place → Reading Json → Tokens
tokens_in p (Ok j) = tokens_at p j
tokens_in p (Err r) = []

-- a fault of a view description, with its place there
abbrev pub in_view : Bytes → Refusal → Told
in_view description r = (r.fault, tokens_in r.place (undoubled description))

-- ---- in the report

-- where in a report a fault of reading is; the whole report if it is at no one place
abbrev pub read_place : ReadFault → Tokens
read_place (read.Missing p r) = p ++ required_name r ∷ []
read_place (read.NotWhole p) = p
read_place (read.NestedClass p) = p
read_place e = []

-- whether the token of a path at a place is this text
abbrev pub is_token : Tokens → ℕ → Bytes → Bool
is_token path k text = option_map_or (λ t. bytes_eq t text) (slice_get path k) false

-- the path in a report of a class of its k-th document, in which the k-th Incident is at place 0
abbrev pub in_report : ℕ → Tokens → Tokens
in_report k path =
    if is_token path 0 (codes "Incident") && is_token path 1 (codes "0") then slice_set path 1 (decimal k) else path

-- the path in a report of the first class that breaks the marking rule; the first document is the k-th
abbrev pub bad_class_from : ℕ → List (List Line) → Option Tokens
bad_class_from k [] = None
bad_class_from k (d ∷ ds) = option_or (option_map (in_report k) (first_bad_marking (located d))) (bad_class_from (k + 1) ds)

-- ---- in both

-- the place of the path of a case's gate or permission, by its number
abbrev pub path_at : Part → ℕ → Tokens
path_at p k = part_name part.Case ∷ part_name p ∷ decimal k ∷ part_name part.Path ∷ []

-- the place of the first gate that is neither at the root nor at a class, or else of the first permission at no class
abbrev pub stray : List LocatedLine → Case → Option Tokens
stray es c = option_or
    (option_map (path_at part.Gates) (position_from (λ g. not (gate_stands es g)) 0 c.gates))
    (option_map (path_at part.Permissions) (position_from (λ x. not (permission_stands es x)) 0 c.permissions))

-- the first fault of an Incident's document, or of none, under a case
abbrev pub found_in : Option (List Line) → Case → Option Told
found_in None c = Some (NoIncident, part_name part.Incident ∷ [])
found_in (Some d) c = option_map (λ p. (NoClass, p)) (stray (located d) c)

-- the first fault of the documents of a report
abbrev pub found_among : List (List Line) → View → Option Told
found_among ds v = option_or (option_map (λ p. (BadMarking, p)) (bad_class_from 0 ds)) (found_in (slice_get ds v.incident) v.case)

-- the first fault of a report that was read or not
abbrev pub found_of : Result (List (List Line)) ReadFault → View → Option Told
found_of (Err e) v = Some (of_report e, read_place e)
found_of (Ok ds) v = found_among ds v

-- the first fault of a view description, or else of the report
abbrev pub found_by : Bytes → Bytes → Reading View → Option Told
found_by report description (Err r) = Some (in_view description r)
found_by report description (Ok v) = found_of (reading report) v

-- the fault's number, a space, and the JSON pointer of its place (RFC 6901); an empty text if there is no fault
abbrev pub found_text : Option Told → Bytes
found_text None = []
found_text (Some f) = decimal (fault_number f.0) ++ 32 ∷ pointer_text f.1

-- The text of the first fault of a view description and a report, of those that have a place: in the description, or
-- else in the report. NoIncident and NoClass are at a place of the description. `is_dated` if the moment is wanted.
unfoldable pub first_fault_text : Bool → Bytes → Bytes → Bytes
first_fault_text is_dated report description =
    found_text (found_by report description (described_at is_dated description))
