-- The JSON object that a document is (RFC 8727 section 2): a fold over its tree.
use Rattle.std.specs.Prelude.{ℕ, List, if◌then◌else◌, Option, Some, None, unwrap_or, option_map, option_and_then, codes}
use Rattle.std.specs.Str.{bytes_eq}
use Rattle.serde_json.specs.Data.{Data}
use Rattle.serde_json.specs.Find.{get, get_member, get_item}
use Rattle.serde_json.specs.Read.{read}
use Rattle.serde_json.specs.Written.{compact_text}
use Rattle.json_pointer.specs.Text.{Bytes}
use Rattle.iodef_tree.specs.Tree.{Content, text, value, Forest, end, leaf, branch}
use Rattle.iodef_tree.specs.TreeOf.{tree_of}
use Rattle.iodef_tree.specs.declared.line.Line.{Line}
use Rattle.serde_json.specs.Data as json

-- the JSON value of a plain content; a text of a value that can't be read counts as null
abbrev pub content_data : Content → Data
content_data (text s) = json.string s
content_data (value s) = unwrap_or (read s) json.null

-- an element in front of members: it joins the array of its name if that is the first of them, else it begins one
abbrev pub element_front : Bytes → Data → json.Members → json.Members
element_front name d (json.member n (json.array ds) ms) =
    if bytes_eq name n then json.member n (json.array (json.item d ds)) ms
    else json.member name (json.array (json.item d json.no_items)) (json.member n (json.array ds) ms)
element_front name d ms = json.member name (json.array (json.item d json.no_items)) ms

-- a value in front of members: a member of its own, or an element if it has a place in an array
abbrev pub json_front : Bytes → Option ℕ → Data → json.Members → json.Members
json_front name None d ms = json.member name d ms
json_front name (Some k) d ms = element_front name d ms

-- the members of the JSON object that a tree is
abbrev pub json_of : Forest → json.Members
json_of end = json.no_members
json_of (leaf i rest) = json_front i.name i.place (content_data i.content) (json_of rest)
json_of (branch name place kids rest) = json_front name place (json.object (json_of kids)) (json_of rest)

-- the members of the JSON object that a document is (RFC 8727 section 2)
abbrev pub data_of : List Line → json.Members
data_of ls = json_of (tree_of ls)

-- the element at place 0 of an array, or the member `0` of an object
abbrev pub zeroth : Data → Option Data
zeroth (json.array ds) = get_item 0 ds
zeroth (json.object ms) = get_member (codes "0") ms
zeroth _ = None

-- the member `IncidentID` of the value at `/Incident/0` (RFC 7970 section 3.4)
abbrev pub id_in : Data → Option Data
id_in d = option_and_then (get (codes "IncidentID")) (option_and_then zeroth (get (codes "Incident") d))

-- the `IncidentID` of the document with these lines, as compact JSON; none if it has none
abbrev pub incident_id : List Line → Option Bytes
incident_id ls = option_map compact_text (id_in (json.object (data_of ls)))
