-- The result of reading a body: a document for each Incident, or the first fault.
use Rattle.std.specs.Prelude.{ℕ, suc, ◌≡◌, List, [], ◌∷◌, length, Bool, true, ◌&&◌, nat_lt, nat_le, if◌then◌else◌, Option, Some, None, option_and_then, is_none}
use Rattle.std.specs.Prelude.{is_some, Result, Ok, Err, codes, decimal}
use Rattle.std.specs.Str.{is_utf8}
use Rattle.serde_json.specs.Data.{Data, put}
use Rattle.serde_json.specs.Find.{get, get_member, as_array, as_object}
use Rattle.serde_json.specs.Events.{items_len}
use Rattle.serde_json.specs.Read.{read}
use Rattle.json_pointer.specs.Text.{Bytes, Tokens}
use Rattle.iodef_tree.specs.Tree.{Forest, lines}
use Rattle.iodef_tree.specs.Values.{forest_of_data, nodes, first_at, is_not_whole, is_nested_class, is_too_deep}
use Rattle.iodef_tree.specs.declared.TheConstants.{REPORT_INCIDENT_LIMIT, LINE_LIMIT}
use Rattle.iodef_tree.specs.declared.line.Line.{Line}
use Rattle.iodef_tree.specs.declared.fault.ReadFault.{ReadFault}
use Rattle.iodef_tree.specs.declared.fault.ReadFault.TheVariants.{NotJson, NotDocument, Missing, NotWhole, NestedClass, TooDeep, TooManyLines, NoMemory}
use Rattle.iodef_tree.specs.declared.fault.Required.{Required}
use Rattle.serde_json.specs.Data as json
use Rattle.iodef_tree.specs.declared.fault.Required.TheVariants as required

-- ---- the names

-- the name of each member that an Incident must have (RFC 7970 section 3.2)
abbrev pub required_name : Required → Bytes
required_name required.Contact = codes "Contact"
required_name required.GenerationTime = codes "GenerationTime"
required_name required.IncidentId = codes "IncidentID"
required_name required.Purpose = codes "purpose"

-- the name of a fault of reading
abbrev pub fault_name : ReadFault → Bytes
fault_name NotJson = codes "NotJson"
fault_name NotDocument = codes "NotDocument"
fault_name (Missing p r) = codes "Missing"
fault_name (NotWhole p) = codes "NotWhole"
fault_name (NestedClass p) = codes "NestedClass"
fault_name TooDeep = codes "TooDeep"
fault_name TooManyLines = codes "TooManyLines"
fault_name NoMemory = codes "NoMemory"

-- ---- the Incidents of a body

-- whether each element of an array is an object
abbrev pub all_objects : json.Items → Bool
all_objects json.no_items = true
all_objects (json.item d ds) = is_some (as_object d) && all_objects ds

-- whether the elements are objects, at least one and at most as many as the limit (RFC 8727 section 2.1)
abbrev pub are_incidents : json.Items → Bool
are_incidents ds = (nat_lt 0 (items_len ds) && nat_le (items_len ds) REPORT_INCIDENT_LIMIT) && all_objects ds

-- these elements if they are Incidents by number and kind, else none
abbrev pub if_incidents : json.Items → Option json.Items
if_incidents ds = if are_incidents ds then Some ds else None

-- the Incidents of a root: the array at its member `Incident`, if it is one of 1 to 16 objects
abbrev pub incidents_of : json.Members → Option json.Items
incidents_of root = option_and_then if_incidents (option_and_then as_array (get_member (codes "Incident") root))

-- whether an Incident lacks this member
abbrev pub lacks : Required → Data → Bool
lacks r d = is_none (get (required_name r) d)

-- the first member that an Incident lacks, if it lacks one
abbrev pub lacking : Data → Option Required
lacking d =
    if lacks required.Contact d then Some required.Contact
    else (if lacks required.GenerationTime d then Some required.GenerationTime
    else (if lacks required.IncidentId d then Some required.IncidentId
    else (if lacks required.Purpose d then Some required.Purpose else None)))

-- the path of an Incident in the body, by its place
abbrev pub incident_at : ℕ → Tokens
incident_at k = codes "Incident" ∷ decimal k ∷ []

-- ---- reading: a result, or the first fault

-- what follows is asked only if there is no fault
infixl 10 ◌>>=◌
abbrev pub ◌>>=◌ : {A B : Type 0} → Result A ReadFault → (A → Result B ReadFault) → Result B ReadFault
(Ok x) >>= f = f x
(Err e) >>= f = Err e

-- the value if there is one, else this fault
abbrev pub or_fault : {A : Type 0} → ReadFault → Option A → Result A ReadFault
or_fault e (Some x) = Ok x
or_fault e None = Err e

-- the fault that this value makes, if there is a value
abbrev pub unless : {A : Type 0} → (A → ReadFault) → Option A → Result (Unit {0}) ReadFault
unless f None = Ok tt
unless f (Some x) = Err (f x)

-- The JSON value of a text in UTF-8 (RFC 8259 section 8.1), else NotJson.
abbrev pub parsed : Bytes → Result Data ReadFault
parsed bytes = or_fault NotJson (if is_utf8 bytes then read bytes else None)

-- each Incident, from this place on, has every member that it must have, else Missing for the first that lacks one
abbrev pub all_complete : ℕ → json.Items → Result (Unit {0}) ReadFault
all_complete k json.no_items = Ok tt
all_complete k (json.item d ds) = unless (Missing (incident_at k)) (lacking d) >>= λ _. all_complete (suc k) ds

-- No value of a body is one that a document can't hold. All faults of one kind come before those of the next:
-- NotWhole, NestedClass, TooDeep.
unfoldable pub all_fit : Data → Result (Unit {0}) ReadFault
all_fit d = do
  whole ← unless NotWhole (first_at is_not_whole (nodes 0 0 d))
  flat ← unless NestedClass (first_at is_nested_class (nodes 0 0 d))
  unless (λ _. TooDeep) (first_at is_too_deep (nodes 0 0 d))

-- ---- the documents of a body

-- the root with an array of this one Incident in place of all its Incidents
abbrev pub with_incident : Data → json.Members → json.Members
with_incident d root = put (codes "Incident") (json.array (json.item d json.no_items)) root

-- the document of one Incident: the root with this Incident alone
abbrev pub document_of : Data → json.Members → Forest
document_of d root = forest_of_data (with_incident d root)

-- these lines if they are within the limit of lines, else TooManyLines
abbrev pub if_short : List Line → Result (List Line) ReadFault
if_short ls = if nat_lt LINE_LIMIT (length ls) then Err TooManyLines else Ok ls

-- the lines of one document for each Incident, or the first fault
abbrev pub documents : json.Members → json.Items → Result (List (List Line)) ReadFault
documents root json.no_items = Ok []
documents root (json.item d ds) = if_short (lines 1 (document_of d root)) >>= λ first. documents root ds >>= λ others. Ok (first ∷ others)

-- What reading a body gives: a document for each Incident, or the first fault, in the order of these lines (RFC 8259,
-- RFC 8727).
unfoldable pub reading : Bytes → Result (List (List Line)) ReadFault
reading bytes = do
  body ← parsed bytes
  root ← or_fault NotDocument (as_object body)
  incidents ← or_fault NotDocument (incidents_of root)
  complete ← all_complete 0 incidents
  fine ← all_fit body
  documents root incidents

-- A call failed as reading fails. NoMemory may come in place of any other answer.
abbrev pub Fails : {Y : Type 0} → ReadFault → Result Y ReadFault → Type 0
Fails NoMemory read = Unit {0}
Fails fault read = read ≡ Err fault

-- A call returned what reading gives, seen by `view`, unless memory ran out.
abbrev pub Returns : {X Y : Type 0} → (X → Y) → Result X ReadFault → Result Y ReadFault → Type 0
Returns view (Ok x) read = read ≡ Ok (view x)
Returns view (Err e) read = Fails e read
