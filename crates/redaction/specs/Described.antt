-- What a view description says: the reader for whom a report is redacted, and the case. Nothing is derived: a truth
-- that is missing is false, and a grant that is missing is not given.
use Rattle.std.specs.Prelude.{ℕ, ◌+◌, nat_le, ℤ, pos, List, [], ◌∷◌, Bool, true, false, not, ◌&&◌, ◌||◌, ◌==◌, if◌then◌else◌, Option, Some, None, is_some}
use Rattle.std.specs.Prelude.{option_and_then, Ok, Err, codes}
use Rattle.std.specs.List.{list_all, list_any}
use Rattle.std.specs.Option.{option_map_or}
use Rattle.std.specs.Str.{bytes_eq}
use Rattle.json.specs.Json.{Json, Items}
use Rattle.json.specs.Find.{get, as_str, as_array}
use Rattle.iodef_tree.specs.Text.{Bytes, Tokens, is_root, same_path}
use Rattle.marking.specs.declared.label.Handling.{Handling}
use Rattle.marking.specs.declared.label.Handling.TheVariants.{Clear, Green, Amber, Strict, Red}
use Rattle.policy.specs.Numbers.{is_among}
use Rattle.policy.specs.Standing.{stranger}
use Rattle.policy.specs.declared.case.Case.{Case}
use Rattle.policy.specs.declared.gate.Gate.{Gate}
use Rattle.policy.specs.declared.permission.Grantee.{Grantee}
use Rattle.policy.specs.declared.permission.Permission.{Permission}
use Rattle.policy.specs.declared.standing.Standing.{Standing}
use Rattle.redaction.specs.Outcome.{Read}
use Rattle.redaction.specs.Places.{part_name}
use Rattle.redaction.specs.Readings.{Reading, ◌>>=◌, ◌&◌, or_fault, require, at, refused, without_place}
use Rattle.redaction.specs.declared.place.Part.{Part}
use Rattle.redaction.specs.declared.place.Step.TheVariants.{Member}
use Rattle.redaction.specs.Values.{parsed, has_doubled, is_object, object_in, text_in, items_in, number_in, path_in, moment_of, moment_from, only, wanted}
use Rattle.redaction.specs.Values.{given_or, given, flag, numbers_under, each, count_of}
use Rattle.redaction.specs.declared.TheConstants.{GATE_LIMIT, PERMISSION_LIMIT}
use Rattle.redaction.specs.declared.reader.Flags.{Flags}
use Rattle.redaction.specs.declared.reader.Lists.{Lists}
use Rattle.redaction.specs.declared.view.View.{View}
use Rattle.redaction.specs.declared.fault.Fault.TheVariants.{DoubledMember, NotObject, MissingMember, OutOfRange, SourceUnsaid}
use Rattle.json.specs.Json as json
use Rattle.policy.specs.declared.permission.Grantee.TheVariants as grantee
use Rattle.redaction.specs.declared.place.Part.TheVariants as part

-- ---- gates

-- a distribution level from 0 to 5 (MISP book: distribution levels)
abbrev pub level_of : ℕ → Reading ℕ
level_of n = if nat_le n 5 then Ok n else Err (refused OutOfRange)

-- the level that a value says
unfoldable pub level_in : Json → Reading ℕ
level_in j = number_in j >>= level_of

-- level 4 names a group, and no other level does
abbrev pub reach_of : ℕ → Option ℕ → Reading (ℕ × Option ℕ)
reach_of level None = if level == 4 then at (Member part.Group) (Err (refused MissingMember)) else Ok (level, None)
reach_of level (Some n) = if level == 4 then Ok (level, Some n) else at (Member part.Group) (Err (refused OutOfRange))

-- the level and the group of a gate
unfoldable pub reach_in : Json → Reading (ℕ × Option ℕ)
reach_in j = wanted level_in part.Level j & given number_in part.Group j >>= λ p. reach_of p.0 p.1

-- A gate by its place, level and group. Level 5 takes the level above, so the root can't have it.
abbrev pub gate_at : Tokens → ℕ → Option ℕ → Reading Gate
gate_at path level group =
    if is_root path && level == 5 then at (Member part.Level) (Err (refused OutOfRange))
    else Ok (record { path = path; level = level; group = group })

-- the gate that a value says: its place, its level and its group
unfoldable pub gate_in : Json → Reading Gate
gate_in j = do
  _ ← object_in j
  parts ← only (part.Path ∷ part.Level ∷ part.Group ∷ []) j & wanted path_in part.Path j & reach_in j
  gate_at parts.0.1 parts.1.0 parts.1.1

-- whether a text has no byte
abbrev pub is_empty_text : Bytes → Bool
is_empty_text [] = true
is_empty_text (c ∷ cs) = false

-- whether a value is a gate whose place is the root
abbrev pub is_root_gate : Json → Bool
is_root_gate j = option_map_or is_empty_text (option_and_then as_str (get (part_name part.Path) j)) false

-- how many of the values are gates at the root
abbrev pub root_gates : Items → ℕ
root_gates json.no_items = 0
root_gates (json.item j js) = (if is_root_gate j then 1 else 0) + root_gates js

-- exactly one gate is at the root, and there are at most so many others
abbrev pub are_gates : Items → Bool
are_gates js = (root_gates js == 1) && nat_le (count_of js) (GATE_LIMIT + 1)

-- whether two elements of a list are alike
abbrev pub has_alike : {A : Type 0} → (A → A → Bool) → List A → Bool
has_alike same [] = false
has_alike same (x ∷ xs) = list_any (same x) xs || has_alike same xs

-- whether two gates are at one place
abbrev pub same_place : Gate → Gate → Bool
same_place g h = same_path g.path h.path

-- gates of which no two are at one place, else OutOfRange
abbrev pub gates_apart : List Gate → Reading (List Gate)
gates_apart gates = if has_alike same_place gates then Err (refused OutOfRange) else Ok gates

-- the gates of a case
unfoldable pub gates_in : Json → Reading (List Gate)
gates_in j = do
  js ← items_in j
  gates ← require (are_gates js) OutOfRange & each gate_in js
  gates_apart gates.1

-- ---- permissions

-- the grantee that is named: one of the four, and no more than one
unfoldable pub one_grantee : Option ℕ → Option ℕ → Option ℕ → Option ℕ → Reading Grantee
one_grantee (Some n) None None None = Ok (grantee.Person n)
one_grantee None (Some n) None None = Ok (grantee.Org n)
one_grantee None None (Some n) None = Ok (grantee.Community n)
one_grantee None None None (Some n) = Ok (grantee.Group n)
one_grantee None None None None = Err (refused MissingMember)
one_grantee _ _ _ _ = Err (refused OutOfRange)

-- the grantee of a permission
unfoldable pub grantee_in : Json → Reading Grantee
grantee_in j = do
  parts ← (given number_in part.Person j & given number_in part.Org j) & (given number_in part.Community j & given number_in part.Group j)
  one_grantee parts.0.0 parts.0.1 parts.1.0 parts.1.1

-- the permission that a value says: its path, its grantee and, if it has one, its end
unfoldable pub permission_in : Json → Reading Permission
permission_in j = do
  _ ← object_in j
  parts ← only (part.Path ∷ part.Person ∷ part.Org ∷ part.Community ∷ part.Group ∷ part.Until ∷ []) j & wanted path_in part.Path j & (grantee_in j & given moment_from part.Until j)
  Ok (record { path = parts.0.1; grantee = parts.1.0; until = parts.1.1 })

-- whether two grantees are the same
abbrev pub same_grantee : Grantee → Grantee → Bool
same_grantee (grantee.Person m) (grantee.Person n) = m == n
same_grantee (grantee.Org m) (grantee.Org n) = m == n
same_grantee (grantee.Community m) (grantee.Community n) = m == n
same_grantee (grantee.Group m) (grantee.Group n) = m == n
same_grantee _ _ = false

-- whether two permissions are at one class and for one grantee, whenever they end
abbrev pub same_permission : Permission → Permission → Bool
same_permission x y = same_path x.path y.path && same_grantee x.grantee y.grantee

-- permissions of which no two are for one grantee at one class, else OutOfRange
abbrev pub permissions_apart : List Permission → Reading (List Permission)
permissions_apart xs = if has_alike same_permission xs then Err (refused OutOfRange) else Ok xs

-- the permissions of a case, of which there are at most so many
unfoldable pub permissions_in : Json → Reading (List Permission)
permissions_in j = do
  js ← items_in j
  permissions ← require (nat_le (count_of js) PERMISSION_LIMIT) OutOfRange & each permission_in js
  permissions_apart permissions.1

-- ---- the case

-- the case that the members of an object say: its source, its community, its gates and its permissions
unfoldable pub case_of : Json → Reading Case
case_of j = do
  parts ← only (part.Source ∷ part.Community ∷ part.Gates ∷ part.Permissions ∷ []) j & (wanted number_in part.Source j & given number_in part.Community j) & (wanted gates_in part.Gates j & given_or [] permissions_in part.Permissions j)
  Ok (record { source = parts.0.1.0; community = parts.0.1.1; gates = parts.1.0; permissions = parts.1.1 })

-- the case that a value says, which is an object
abbrev pub case_in : Json → Reading Case
case_in j = object_in j >>= λ _. case_of j

-- ---- the reader

-- the handling with this name, or with this label of TLP (FIRST TLP 2.0; TLP:WHITE of its first version is TLP:CLEAR)
unfoldable pub handling_of_name : Bytes → Option Handling
handling_of_name text =
    if bytes_eq text (codes "CLEAR") then Some Clear
    else if bytes_eq text (codes "GREEN") then Some Green
    else if bytes_eq text (codes "AMBER") then Some Amber
    else if bytes_eq text (codes "STRICT") then Some Strict
    else if bytes_eq text (codes "RED") then Some Red
    else if bytes_eq text (codes "TLP:CLEAR") then Some Clear
    else if bytes_eq text (codes "TLP:WHITE") then Some Clear
    else if bytes_eq text (codes "TLP:GREEN") then Some Green
    else if bytes_eq text (codes "TLP:AMBER") then Some Amber
    else if bytes_eq text (codes "TLP:AMBER+STRICT") then Some Strict
    else if bytes_eq text (codes "TLP:RED") then Some Red
    else None

-- the handling with this name, else OutOfRange
abbrev pub handling_named : Bytes → Reading Handling
handling_named text = or_fault OutOfRange (handling_of_name text)

-- the handling that a value says
unfoldable pub handling_in : Json → Reading Handling
handling_in j = text_in j >>= handling_named

-- the truths of a reader; each one that is missing is false
unfoldable pub flags_in : Json → Reading Flags
flags_in j = do
  source ← flag part.Source j
  person ← flag part.Person j
  nominated ← flag part.Nominated j
  addressed ← flag part.Addressed j
  client ← flag part.Client j
  community ← flag part.Community j
  peer ← flag part.Peer j
  connected ← flag part.Connected j
  Ok (record { source = source; person = person; nominated = nominated; addressed = addressed; client = client; community = community; peer = peer; connected = connected })

-- OutOfRange unless each active group is among the groups of the reader's organisation
abbrev pub require_active : List ℕ → List ℕ → Reading (Unit {0})
require_active groups active =
    at (Member part.ActiveGroups) (require (list_all (λ n. is_among n groups) active) OutOfRange)

-- these lists, unless an active group isn't among the groups
abbrev pub with_active : Lists → Reading Lists
with_active l = require_active l.groups l.active_groups >>= λ _. Ok l

-- the lists of a reader; each one that is missing is empty
unfoldable pub lists_in : Json → Reading Lists
lists_in j = do
  lists ← numbers_under part.Groups j & numbers_under part.ActiveGroups j & numbers_under part.Communities j
  with_active (record { groups = lists.0.0; active_groups = lists.0.1; communities = lists.1 })

-- the standing of a reader, at the beginning of 1970
abbrev pub standing_of : Flags → ℕ → ℕ → Option Handling → Lists → Standing
standing_of f who org arrangement l = record {
  source = f.source;
  person = f.person;
  nominated = f.nominated;
  addressed = f.addressed;
  client = f.client;
  community = f.community;
  peer = f.peer;
  connected = f.connected;
  arrangement = arrangement;
  who = who;
  org = org;
  groups = l.groups;
  active_groups = l.active_groups;
  communities = l.communities;
  now = pos 0;
}

-- the members that a reader may have
abbrev pub reader_names : List Part
reader_names =
    part.Who ∷ part.Org ∷ part.Source ∷ part.Person ∷ part.Nominated ∷ part.Addressed ∷ part.Client
    ∷ part.Community ∷ part.Peer ∷ part.Connected ∷ part.Arrangement ∷ part.Groups ∷ part.ActiveGroups
    ∷ part.Communities ∷ []

-- the standing that the members of an object say, without the moment
unfoldable pub reader_of : Json → Reading Standing
reader_of j = do
  parts ← only reader_names j & flags_in j & (wanted number_in part.Who j & wanted number_in part.Org j) & (given handling_in part.Arrangement j & lists_in j)
  Ok (standing_of parts.0.0.1 parts.0.1.0 parts.0.1.1 parts.1.0 parts.1.1)

-- the standing that a value says, which is an object
abbrev pub reader_in : Json → Reading Standing
reader_in j = object_in j >>= λ _. reader_of j

-- ---- the long form

-- a permission has the member that says its end
abbrev pub says_end : Json → Bool
says_end j = is_some (get (part_name part.Until) j)

-- one of these permissions has it
abbrev pub some_says_end : Items → Bool
some_says_end json.no_items = false
some_says_end (json.item j js) = says_end j || some_says_end js

-- a permission of the view's case has it
abbrev pub has_end : Json → Bool
has_end j = option_map_or some_says_end (option_and_then as_array (option_and_then (get (part_name part.Permissions)) (get (part_name part.Case) j))) false

-- the moment that a value says, with its text
unfoldable pub moment_said : Json → Reading (ℤ × Option Bytes)
moment_said j = do
  text ← text_in j
  moment ← moment_of text
  Ok (moment, Some text)

-- what a value says as the moment of a view: if it is wanted, there is a value; else it is the beginning of 1970 if
-- there is none
abbrev pub now_by : Bool → Option Json → Reading (ℤ × Option Bytes)
now_by is_wanted None = if is_wanted then Err (refused MissingMember) else Ok (pos 0, None)
now_by is_wanted (Some j) = moment_said j

-- the moment of a view, and its text if it has one
abbrev pub now_in : Bool → Json → Reading (ℤ × Option Bytes)
now_in is_wanted j = at (Member part.Now) (now_by is_wanted (get (part_name part.Now) j))

-- the same truth
abbrev pub same_truth : Bool → Bool → Bool
same_truth a b = if a then b else not b

-- if no community is named, a peer is a reader of a community of the source
abbrev pub is_peer_right : Case → Standing → Bool
is_peer_right c s = is_some c.community || same_truth s.peer s.community

-- a reader is said to be of the source exactly if its organisation is the source
abbrev pub is_source_right : Case → Standing → Bool
is_source_right c s = same_truth s.source (s.org == c.source)

-- the reader of a case: OutOfRange at a peer that no case has, SourceUnsaid at a source that isn't the case's
abbrev pub fits_case : Case → Standing → Reading (Unit {0})
fits_case c s =
    at (Member part.Reader) (at (Member part.Peer) (require (is_peer_right c s) OutOfRange)
    & at (Member part.Source) (require (is_source_right c s) SourceUnsaid)) >>= λ _. Ok tt

-- a view of these parts
abbrev pub view_at : ℤ × Option Bytes → ℕ → Case → Standing → Reading View
view_at now incident c s =
    fits_case c s >>= λ _. Ok (record { incident = incident; case = c; reader = record s { now = now.0 }; said = now.1 })

-- a view of the moment and the place, the case and the reader
abbrev pub view_by : (Unit {0} × ((ℤ × Option Bytes) × ℕ)) × (Case × Standing) → Reading View
view_by parts = view_at parts.0.1.0 parts.0.1.1 parts.1.0 parts.1.1

-- the view of parts that may not have been read; the first fault if one wasn't
abbrev pub view_read : Reading ((Unit {0} × ((ℤ × Option Bytes) × ℕ)) × (Case × Standing)) → Reading View
view_read parts = parts >>= view_by

-- The view that an object in the long form says. The moment is wanted if a permission has an end, or if the caller
-- wants it.
unfoldable pub long_in : Bool → Json → Reading View
long_in is_dated j = view_read (only (part.Now ∷ part.Incident ∷ part.Case ∷ part.Reader ∷ []) j & (now_in (is_dated || has_end j) j & given_or 0 number_in part.Incident j) & (wanted case_in part.Case j & wanted reader_in part.Reader j))

-- ---- the short form

-- a case whose gates and permissions change nothing: everybody passes its root gate
abbrev pub open_case : Case
open_case = record {
  source = 1;
  community = None;
  gates = record { path = []; level = 3; group = None } ∷ [];
  permissions = [];
}

-- a reader of another organisation with this clearance, and nothing stricter (FIRST TLP 2.0)
abbrev pub cleared_reader : Handling → Standing
cleared_reader Clear = stranger 2 2
cleared_reader Green = record (stranger 2 2) { peer = true }
cleared_reader Amber = record (stranger 2 2) { nominated = true; client = true }
cleared_reader Strict = record (stranger 2 2) { nominated = true; addressed = true }
cleared_reader Red = record (stranger 2 2) { person = true }

-- the view that an object in the short form says
unfoldable pub short_in : Bool → Json → Reading View
short_in is_dated j = do
  parts ← only (part.Clearance ∷ part.Incident ∷ part.Now ∷ []) j & wanted handling_in part.Clearance j & (given_or 0 number_in part.Incident j & now_in is_dated j)
  Ok (record { incident = parts.1.0; case = open_case; reader = cleared_reader parts.0.1; said = parts.1.1.1 })

-- ---- a description

-- the short form if there is a member `clearance`, else the long one
abbrev pub view_in : Bool → Json → Reading View
view_in is_dated j = if is_some (get (part_name part.Clearance) j) then short_in is_dated j else long_in is_dated j

-- the JSON value of a text, or DoubledMember if an object in it, at any depth, has a member twice
unfoldable pub undoubled : Bytes → Reading Json
undoubled bytes = do
  j ← parsed bytes
  _ ← require (not (has_doubled j)) DoubledMember
  Ok j

-- the view that a value says, which is an object
abbrev pub view_from : Bool → Json → Reading View
view_from is_dated j = require (is_object j) NotObject >>= λ _. view_in is_dated j

-- the view that a description says, or its first fault with its place; `is_dated` if the caller wants its moment
unfoldable pub described_at : Bool → Bytes → Reading View
described_at is_dated bytes = undoubled bytes >>= view_from is_dated

-- the view that a description says, or its first fault
abbrev pub described : Bytes → Read View
described bytes = without_place (described_at false bytes)

-- the same, if the moment has to be said
abbrev pub described_dated : Bytes → Read View
described_dated bytes = without_place (described_at true bytes)
