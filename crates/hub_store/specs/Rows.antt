-- Each element of a set as a row of its table. If it has a number, the row begins with the number as rowid, and NULL in
-- its column.
use Rattle.std.specs.Prelude.{ℕ, pos, Bool, if◌then◌else◌, List, [], ◌∷◌, ◌++◌, map, Some, None, codes}
use Rattle.serde_json.specs.Data.{object}
use Rattle.serde_json.specs.Written.{compact_text}
use Rattle.sqlite_value.specs.declared.value.Value.TheVariants.{Null, Int, Text, Blob}
use Rattle.sqlite_value.specs.Order.{Row, column}
use Rattle.iodef_tree.specs.Json.{data_of}
use Rattle.iodef_tree.specs.Pointer.{pointer_text}
use Rattle.circle.specs.declared.directory.Role.{Role}
use Rattle.circle.specs.declared.directory.Role.TheVariants.{Administrator, Coordinator, Poster, Reader}
use Rattle.circle.specs.declared.directory.Handling.{Handling}
use Rattle.circle.specs.declared.directory.Handling.TheVariants.{Clear, Green, Amber, Strict, Red}
use Rattle.circle.specs.declared.directory.Org.{Org}
use Rattle.circle.specs.declared.directory.Account.{Account}
use Rattle.circle.specs.declared.directory.Client.{Client}
use Rattle.circle.specs.declared.directory.Community.{Community}
use Rattle.circle.specs.declared.directory.Membership.{Membership}
use Rattle.circle.specs.declared.directory.Connection.{Connection}
use Rattle.circle.specs.declared.directory.Group.{Group}
use Rattle.circle.specs.declared.directory.GroupMember.{GroupMember}
use Rattle.circle.specs.declared.directory.Arrangement.{Arrangement}
use Rattle.circle.specs.Directory.{Directory, client_key, membership_key, connection_key, group_member_key, arrangement_key}
use Rattle.hub_state.specs.Documents.{Lines}
use Rattle.hub_state.specs.State.{target_key, grantee_key}
use Rattle.hub_state.specs.declared.state.Incident.{Incident}
use Rattle.hub_state.specs.declared.state.Naming.{Naming}
use Rattle.hub_state.specs.declared.state.Gate.{Gate}
use Rattle.hub_state.specs.declared.state.Recipient.{Recipient}
use Rattle.hub_state.specs.declared.state.Permission.{Permission}
use Rattle.hub_store.specs.Values.{number_or_null, moment_or_null, flag}
use Rattle.hub_store.specs.Pairs.{Pair, PairSet}

-- ---- numbers in place of names

-- the number of a role in the tables
abbrev pub role_number : Role → ℕ
role_number Administrator = 0
role_number Coordinator = 1
role_number Poster = 2
role_number Reader = 3

-- the number of a handling in the tables
abbrev pub handling_number : Handling → ℕ
handling_number Clear = 0
handling_number Green = 1
handling_number Amber = 2
handling_number Strict = 3
handling_number Red = 4

-- ---- rows with a number

-- the row of an organisation
abbrev pub org_row : Org → Row
org_row o = Int (pos o.number) ∷ Null ∷ Text o.name ∷ []

-- the row of a person with its key
abbrev pub account_row : Account → Row
account_row a =
    Int (pos a.person.number) ∷ Null ∷ Int (pos a.person.org) ∷ Text a.person.name ∷ Int (pos (role_number a.person.role)) ∷ Blob a.key ∷ flag a.person.active ∷ flag a.person.nominated ∷ []

-- the row of a community
abbrev pub community_row : Community → Row
community_row c = Int (pos c.number) ∷ Null ∷ Text c.name ∷ []

-- the row of a group
abbrev pub group_row : Group → Row
group_row g = Int (pos g.number) ∷ Null ∷ Int (pos g.owner) ∷ Text g.name ∷ Text g.releasability ∷ flag g.active ∷ []

-- the row of an incident without its document and its community, as versions 2 and 3 keep it
abbrev pub naming_row_2 : Naming → Row
naming_row_2 k = Int (pos k.number) ∷ Null ∷ Int (pos k.source) ∷ Text k.ident ∷ Int (pos k.revision) ∷ []

-- the row of an incident without its document and its community, by the incident
abbrev pub named_row_2 : Incident → Row
named_row_2 i = naming_row_2 i.naming

-- the row of an incident with its community, as version 4 keeps it
abbrev pub naming_row : Naming → Row
naming_row k = naming_row_2 k ++ number_or_null k.community ∷ []

-- the row of an incident with its community, by the incident
abbrev pub named_row : Incident → Row
named_row i = naming_row i.naming

-- the compact JSON of a document
abbrev pub document_text : Lines → List ℕ
document_text doc = compact_text (object (data_of doc))

-- the row of an incident with its document as a text, as version 1 keeps it
abbrev pub incident_row : Incident → Row
incident_row i =
    Int (pos i.naming.number) ∷ Null ∷ Int (pos i.naming.source) ∷ Text i.naming.ident ∷ Int (pos i.naming.revision) ∷ Text (document_text i.document) ∷ []

-- ---- rows without a number

-- the row of a gate
abbrev pub gate_row : Gate → Row
gate_row g =
    Int (pos g.incident) ∷ Text (pointer_text g.gate.path) ∷ Int (pos g.gate.level) ∷ number_or_null g.gate.group ∷ []

-- the row of a recipient, with its kind as a number
abbrev pub recipient_row : Recipient → Row
recipient_row r = Int (pos r.incident) ∷ Int (pos (target_key r.target).0) ∷ Int (pos (target_key r.target).1) ∷ []

-- the row of a permission without its end, as versions 1 and 2 keep it
abbrev pub endless_row : Permission → Row
endless_row x =
    Int (pos x.incident) ∷ Text (pointer_text x.permission.path) ∷ Int (pos (grantee_key x.permission.grantee).0) ∷ Int (pos (grantee_key x.permission.grantee).1) ∷ []

-- the row of a permission with its end, as later versions keep it
abbrev pub permission_row : Permission → Row
permission_row x = endless_row x ++ moment_or_null x.permission.until ∷ []

-- ---- a row of an older version as the next one keeps it

-- the row of a permission, with NULL as its end
abbrev pub without_end : Row → Row
without_end row = row ++ Null ∷ []

-- the row of an incident, with NULL as its community
abbrev pub without_community : Row → Row
without_community r = column r 0 ∷ Null ∷ column r 1 ∷ column r 2 ∷ column r 3 ∷ Null ∷ []

-- ---- five sets in one table, each with its name: two numbers, and perhaps a third

-- a client as a pair: organisation and client
abbrev pub client_pair : Client → Pair
client_pair c = (client_key c, None)

-- a membership as a pair: community and organisation
abbrev pub membership_pair : Membership → Pair
membership_pair m = (membership_key m, None)

-- a connection as a pair of communities
abbrev pub connection_pair : Connection → Pair
connection_pair l = (connection_key l, None)

-- a flag as a number
abbrev pub one_if : Bool → ℕ
one_if b = if b then 1 else 0

-- a member of a group as a pair: group, organisation and whether it may extend the group
abbrev pub group_member_pair : GroupMember → Pair
group_member_pair m = (group_member_key m, Some (one_if m.extend))

-- an arrangement as a pair: source, organisation and the number of the handling
abbrev pub arrangement_pair : Arrangement → Pair
arrangement_pair a = (arrangement_key a, Some (handling_number a.handling))

-- the five sets of the table of pairs, each with its name
abbrev pub pair_sets : Directory → List PairSet
pair_sets d =
    (codes "client", map client_pair d.clients)
    ∷ (codes "member", map membership_pair d.memberships)
    ∷ (codes "link", map connection_pair d.connections)
    ∷ (codes "grp_member", map group_member_pair d.group_members)
    ∷ (codes "arrangement", map arrangement_pair d.arrangements)
    ∷ []
