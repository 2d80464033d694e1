-- Whether an excerpt is a report again.
use Rattle.std.specs.Prelude.{ℕ, List, Bool, false, ◌&&◌, ◌==◌, nat_le, length, count_by, is_none, codes}
use Rattle.std.specs.List.{list_all}
use Rattle.std.specs.Option.{option_map_or}
use Rattle.std.specs.Str.{bytes_eq}
use Rattle.serde_json.specs.Data.{Data}
use Rattle.serde_json.specs.Find.{get_member}
use Rattle.serde_json.specs.Written.{compact_text}
use Rattle.iodef_tree.specs.Text.{Bytes}
use Rattle.iodef_tree.specs.Json.{data_of}
use Rattle.iodef_tree.specs.Reading.{lacking}
use Rattle.iodef_tree.specs.declared.TheConstants.{DEPTH_LIMIT, LINE_LIMIT}
use Rattle.iodef_tree.specs.declared.line.Line.{Line}
use Rattle.serde_json.specs.Data as json

-- whether a value is an array of one Incident, with each member that an Incident must have (RFC 7970 section 3.2)
abbrev pub is_complete_incident : Data → Bool
is_complete_incident (json.array (json.item d json.no_items)) = is_none (lacking d)
is_complete_incident _ = false

-- whether an outline has one Incident, with each member that an Incident must have
abbrev pub has_complete_incident : List Line → Bool
has_complete_incident ls = option_map_or is_complete_incident (get_member (codes "Incident") (data_of ls)) false

-- whether a line is within the limit of depth that a report has
abbrev pub is_shallow : Line → Bool
is_shallow l = nat_le l.depth DEPTH_LIMIT

-- An outline is readable, that is a report again, if it has one Incident, with each member that an Incident must have,
-- and is within the limits of lines and of depth that a report has.
abbrev pub is_readable : List Line → Bool
is_readable ls = has_complete_incident ls && (nat_le (length ls) LINE_LIMIT && list_all is_shallow ls)

-- the text of an outline's document: compact JSON (RFC 8727 section 2)
abbrev pub outline_text : List Line → Bytes
outline_text ls = compact_text (json.object (data_of ls))

-- whether a line is a member `Incident` of the root, or an element of that member's array
abbrev pub is_incident_line : Line → Bool
is_incident_line l = (l.depth == 1) && bytes_eq l.name (codes "Incident")

-- how many Incidents an outline has
abbrev pub incident_count : List Line → ℕ
incident_count ls = count_by is_incident_line ls
