-- An excerpt made a report again by placeholders that say so. An Incident must have four members (RFC 7970 section 3.2),
-- and an excerpt may lack any of them.
use Rattle.std.specs.Prelude.{ℕ, suc, List, [], ◌∷◌, ◌++◌, length, take, drop, Bool, true, false, ◌&&◌, ◌||◌, ◌==◌, nat_lt, if◌then◌else◌, Option, Some, None}
use Rattle.std.specs.Prelude.{unwrap_or, Ok, Err, codes}
use Rattle.std.specs.List.{list_any, position_from}
use Rattle.std.specs.Option.{option_map_or}
use Rattle.std.specs.Str.{bytes_eq}
use Rattle.iodef_tree.specs.Text.{Bytes, bytes_lt}
use Rattle.iodef_tree.specs.Outline.{is_outline}
use Rattle.iodef_tree.specs.declared.line.Line.{Line}
use Rattle.redaction.specs.Outcome.{Read, ◌>>=◌}
use Rattle.redaction.specs.Readable.{is_readable}
use Rattle.redaction.specs.Words.{word_of}
use Rattle.redaction.specs.declared.whole.Identifier.{Identifier}
use Rattle.redaction.specs.declared.whole.Named.{Named}
use Rattle.redaction.specs.declared.fault.Fault.TheVariants.{NotReadable, IdMissing}
use Rattle.iodef_tree.specs.declared.line.Kind.TheVariants as kind

-- ---- the placeholders

-- the line of a class, which is an element of an array or not
abbrev pub class_line : ℕ → Bool → Bytes → Line
class_line depth in_array name = record { depth = depth; name = name; in_array = in_array; kind = kind.Class; text = [] }

-- the line of a text, which is an element of an array or not
abbrev pub text_line : ℕ → Bool → Bytes → Bytes → Line
text_line depth in_array name text = record { depth = depth; name = name; in_array = in_array; kind = kind.Text; text = text }

-- the text that says that something is withheld
abbrev pub withheld : Bytes
withheld = codes "withheld"

-- the value of an enumerated attribute whose text is in the one beside it (RFC 7970 section 5.1.1)
abbrev pub extended : Bytes
extended = codes "ext-value"

-- an Incident without members
abbrev pub incident : List Line
incident = class_line 1 true (codes "Incident") ∷ []

-- a Contact of which nothing is said (RFC 7970 section 3.9)
abbrev pub contact : List Line
contact =
    class_line 2 true (codes "Contact") ∷ text_line 3 true (codes "ContactName") withheld
    ∷ text_line 3 false (codes "ext-role") withheld ∷ text_line 3 false (codes "ext-type") withheld
    ∷ text_line 3 false (codes "role") extended ∷ text_line 3 false (codes "type") extended ∷ []

-- when the excerpt was made (RFC 7970 section 3.2)
abbrev pub generation_time : Bytes → List Line
generation_time moment = text_line 2 false (codes "GenerationTime") moment ∷ []

-- the name and the id of an identifier
abbrev pub identifier : Identifier → Bytes × Bytes
identifier i = (i.name.now, i.id.now)

-- the same of one as texts
abbrev pub named : Named → Bytes × Bytes
named i = (i.name.now, i.id.now)

-- an identifier whose name and id are texts in UTF-8, else NotUtf8
abbrev pub id_of : Bytes × Bytes → Read (Bytes × Bytes)
id_of i = do
  name ← word_of i.0
  id ← word_of i.1
  Ok (name, id)

-- the same, if one is given
abbrev pub some_id_of : Option (Bytes × Bytes) → Read (Option (Bytes × Bytes))
some_id_of None = Ok None
some_id_of (Some i) = id_of i >>= λ id. Ok (Some id)

-- an identifier by its name and its id (RFC 7970 section 3.4)
abbrev pub incident_id : Bytes × Bytes → List Line
incident_id i =
    class_line 2 false (codes "IncidentID") ∷ text_line 3 false (codes "id") i.1 ∷ text_line 3 false (codes "name") i.0 ∷ []

-- the text of a purpose of which nothing is said (RFC 7970 section 3.2)
abbrev pub ext_purpose : List Line
ext_purpose = text_line 2 false (codes "ext-purpose") withheld ∷ []

-- the value beside that text
abbrev pub purpose : List Line
purpose = text_line 2 false (codes "purpose") extended ∷ []

-- ---- where they come

-- how many of these lines are those of one class: those before the first that is less deep
abbrev pub block_length : ℕ → List Line → ℕ
block_length depth ls = unwrap_or (position_from (λ l. nat_lt l.depth depth) 0 ls) (length ls)

-- whether a line is that of a member with this name
abbrev pub is_member : ℕ → Bytes → Line → Bool
is_member depth name l = l.depth == depth && bytes_eq l.name name

-- whether a class with these lines has a member with this name
abbrev pub has_member : ℕ → Bytes → List Line → Bool
has_member depth name ls = list_any (is_member depth name) (take (block_length depth ls) ls)

-- whether a member with this name comes before a line: the line ends the class, or is of a member with a later name
abbrev pub comes_before : ℕ → Bytes → Line → Bool
comes_before depth name l = nat_lt l.depth depth || (l.depth == depth && bytes_lt name l.name)

-- how many lines of a class come before those of a member with this name
abbrev pub place_in : ℕ → Bytes → List Line → ℕ
place_in depth name ls = unwrap_or (position_from (comes_before depth name) 0 ls) (length ls)

-- the lines with others put in at a place
abbrev pub put_at : ℕ → List Line → List Line → List Line
put_at k group ls = take k ls ++ (group ++ drop k ls)

-- the lines of a class with those of one member more, at its place by name
abbrev pub put_in : ℕ → Bytes → List Line → List Line → List Line
put_in depth name group ls = put_at (place_in depth name ls) group ls

-- the lines of a class with those of a member, unless it has one of this name
abbrev pub put_missing : ℕ → Bytes → List Line → List Line → List Line
put_missing depth name group ls = if has_member depth name ls then ls else put_in depth name group ls

-- whether a line is that of an Incident
abbrev pub is_incident : Line → Bool
is_incident = is_member 1 (codes "Incident")

-- how many lines come before those of the first Incident's members
abbrev pub incident_begin : List Line → ℕ
incident_begin ls = option_map_or suc (position_from is_incident 0 ls) (length ls)

-- the lines, with those of the first Incident's members and all behind them changed
abbrev pub within_incident : (List Line → List Line) → List Line → List Line
within_incident change ls = take (incident_begin ls) ls ++ change (drop (incident_begin ls) ls)

-- the lines of an Incident with the placeholder for the extended purpose, if it has none
unfoldable pub put_ext_purpose : List Line → List Line
put_ext_purpose ls = put_missing 2 (codes "ext-purpose") ext_purpose ls

-- the lines of an Incident with the placeholder for the purpose
unfoldable pub put_purpose : List Line → List Line
put_purpose ls = put_in 2 (codes "purpose") purpose ls

-- the lines of an Incident with placeholders for the purpose, if it has none
abbrev pub with_purpose : List Line → List Line
with_purpose ls = if has_member 2 (codes "purpose") ls then ls else put_purpose (put_ext_purpose ls)

-- the lines of an Incident with an identifier, if one is given and it has none
abbrev pub with_id : Option (Bytes × Bytes) → List Line → List Line
with_id None ls = ls
with_id (Some i) ls = put_missing 2 (codes "IncidentID") (incident_id i) ls

-- the lines of an Incident with a placeholder for each of the four members that it lacks
abbrev pub completed : Bytes → Option (Bytes × Bytes) → List Line → List Line
completed moment id ls =
    with_purpose (with_id id (put_missing 2 (codes "GenerationTime") (generation_time moment) (put_missing 2 (codes "Contact") contact ls)))

-- the outline of an excerpt with placeholders
abbrev pub filled : Bytes → Option (Bytes × Bytes) → List Line → List Line
filled moment id ls = within_incident (completed moment id) (put_missing 1 (codes "Incident") incident ls)

-- ---- the whole excerpt

-- whether the first Incident has a member with this name
abbrev pub incident_has : Bytes → List Line → Bool
incident_has name ls = has_member 2 name (drop (incident_begin ls) ls)

-- these lines if they are the outline of a document that can be read as a report, else NotReadable
abbrev pub readable_of : List Line → Read (List Line)
readable_of ls = if is_outline ls && is_readable ls then Ok ls else Err NotReadable

-- IdMissing if the Incident of these lines has no identifier, as none was given; else the lines, if they can be read
abbrev pub if_report : List Line → Read (List Line)
if_report ls = if incident_has (codes "IncidentID") ls then readable_of ls else Err IdMissing

-- The outline of an excerpt made a report again: by the excerpt, a moment's text and an identifier alone.
unfoldable pub whole_of : Bytes → Option (Bytes × Bytes) → List Line → Read (List Line)
whole_of moment id ls = if_report (filled moment id ls)
