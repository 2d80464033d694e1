-- The body of each reply, as a JSON value (RFC 8259). The members of an object are in the byte order of their names.
use Rattle.std.specs.Prelude.{ℕ, ℤ, List, [], ◌∷◌, map, true, Option, Some, None, unwrap_or, codes}
use Rattle.serde_json.specs.Data.{Data, null, boolean, number, unsigned, string, array, object, no_members, member}
use Rattle.serde_json.specs.Find.{of_integer}
use Rattle.serde_json.specs.View.{items_of}
use Rattle.circle.specs.Codes.{name_of, reason_of}
use Rattle.circle.specs.declared.directory.Person.{Person}
use Rattle.circle.specs.declared.directory.Role.{Role}
use Rattle.circle.specs.declared.directory.Role.TheVariants.{Administrator, Coordinator, Poster, Reader}
use Rattle.iodef_tree.specs.Json.{data_of}
use Rattle.iodef_tree.specs.Pointer.{pointer_text}
use Rattle.policy.specs.Rule.{name_of as rule_name}
use Rattle.policy.specs.declared.rule.Rule.{Rule}
use Rattle.policy.specs.declared.gate.Gate.{Gate}
use Rattle.policy.specs.declared.permission.Grantee.{Grantee}
use Rattle.hub_state.specs.declared.reply.Entry.{Entry}
use Rattle.hub_state.specs.declared.reply.JoinedGroup.{JoinedGroup}
use Rattle.hub_state.specs.declared.reply.JoinedCommunity.{JoinedCommunity}
use Rattle.hub_state.specs.declared.reply.SharedPermission.{SharedPermission}
use Rattle.hub_state.specs.declared.reply.Sharing.{Sharing}
use Rattle.hub_state.specs.declared.request.Target.{Target}
use Rattle.hub_state.specs.declared.reply.View.{View}
use Rattle.hub_state.specs.declared.reply.Reply.{Reply}
use Rattle.policy.specs.declared.permission.Grantee.TheVariants as grantee
use Rattle.hub_state.specs.declared.request.Target.TheVariants as target
use Rattle.hub_state.specs.declared.reply.Reply.TheVariants as reply

-- ---- parts

-- a number as a JSON number
abbrev pub whole : ℕ → Data
whole n = number (unsigned n)

-- a list of values as a JSON array
abbrev pub listed : List Data → Data
listed ds = array (items_of ds)

-- what is withheld: the JSON pointer of its place in the excerpt (RFC 6901), and the rule
abbrev pub withheld_pair : List (List ℕ) × Rule → Data
withheld_pair pair = listed (string (pointer_text pair.0) ∷ string (rule_name pair.1) ∷ [])

-- an incident as it is listed
abbrev pub entry_object : Entry → Data
entry_object e =
    object (member (codes "number") (whole e.number)
    (member (codes "revision") (whole e.revision)
    (member (codes "source") (whole e.source) no_members)))

-- a group as it is listed for a member
abbrev pub group_object : JoinedGroup → Data
group_object g =
    object (member (codes "active") (boolean g.active)
    (member (codes "extend") (boolean g.extend)
    (member (codes "name") (string g.name)
    (member (codes "number") (whole g.number)
    (member (codes "owner") (whole g.owner)
    (member (codes "releasability") (string g.releasability) no_members))))))

-- a community as it is listed for a member
abbrev pub community_object : JoinedCommunity → Data
community_object c =
    object (member (codes "connected") (listed (map whole c.connected))
    (member (codes "members") (listed (map whole c.members))
    (member (codes "name") (string c.name)
    (member (codes "number") (whole c.number) no_members))))

-- ---- how an incident is shared

-- a number, and 0 for none
abbrev pub whole_or_zero : Option ℕ → Data
whole_or_zero n = whole (unwrap_or n 0)

-- a gate: the JSON pointer of its path, its level, and its group or 0
abbrev pub gate_triple : Gate → Data
gate_triple g = listed (string (pointer_text g.path) ∷ whole g.level ∷ whole_or_zero g.group ∷ [])

-- a recipient: its kind and its number
abbrev pub target_pair : Target → Data
target_pair (target.Person n) = listed (string (codes "person") ∷ whole n ∷ [])
target_pair (target.Org n) = listed (string (codes "org") ∷ whole n ∷ [])

-- the kind of a grantee
abbrev pub grantee_kind : Grantee → List ℕ
grantee_kind (grantee.Person n) = codes "person"
grantee_kind (grantee.Org n) = codes "org"
grantee_kind (grantee.Community n) = codes "community"
grantee_kind (grantee.Group n) = codes "group"

-- the number of a grantee
abbrev pub grantee_number : Grantee → ℕ
grantee_number (grantee.Person n) = n
grantee_number (grantee.Org n) = n
grantee_number (grantee.Community n) = n
grantee_number (grantee.Group n) = n

-- an end in seconds since the beginning of 1970 (UTC), and null for none
abbrev pub end_or_null : Option ℤ → Data
end_or_null None = null
end_or_null (Some end) = number (of_integer end)

-- a permission: the JSON pointer of its path, the kind and the number of its grantee, its end, and whether it has ended
abbrev pub permission_row : SharedPermission → Data
permission_row x =
    listed (string (pointer_text x.permission.path)
    ∷ string (grantee_kind x.permission.grantee)
    ∷ whole (grantee_number x.permission.grantee)
    ∷ end_or_null x.permission.until
    ∷ boolean x.ended
    ∷ [])

-- how an incident is shared; its ident is a text that holds JSON
abbrev pub sharing_body : Sharing → Data
sharing_body s =
    object (member (codes "community") (whole_or_zero s.naming.community)
    (member (codes "gates") (listed (map gate_triple s.gates))
    (member (codes "ident") (string s.naming.ident)
    (member (codes "number") (whole s.naming.number)
    (member (codes "permissions") (listed (map permission_row s.permissions))
    (member (codes "recipients") (listed (map target_pair s.recipients))
    (member (codes "revision") (whole s.naming.revision) no_members)))))))

-- ---- the caller

-- the name of a role
abbrev pub role_name : Role → List ℕ
role_name Administrator = codes "administrator"
role_name Coordinator = codes "coordinator"
role_name Poster = codes "poster"
role_name Reader = codes "reader"

-- ---- bodies

-- the body of a refusal: its code, its detail, and the reason in words
abbrev pub refusal_body : List ℕ → List ℕ → List ℕ → Data
refusal_body name detail why =
    object (member (codes "code") (string name)
    (member (codes "detail") (string detail)
    (member (codes "reason") (string why) no_members)))

-- the body of a view; its document is the JSON object of the excerpt's lines
abbrev pub view_body : View → Data
view_body v =
    object (member (codes "classes") (whole v.classes)
    (member (codes "document") (object (data_of v.document))
    (member (codes "number") (whole v.number)
    (member (codes "revision") (whole v.revision)
    (member (codes "source") (whole v.source)
    (member (codes "withheld") (listed (map withheld_pair v.withheld)) no_members))))))

-- the body of the reply to WhoAmI
abbrev pub caller_body : Person → Data
caller_body p =
    object (member (codes "name") (string p.name)
    (member (codes "nominated") (boolean p.nominated)
    (member (codes "number") (whole p.number)
    (member (codes "org") (whole p.org)
    (member (codes "role") (string (role_name p.role)) no_members)))))

-- an object with one member
abbrev pub sole : List ℕ → Data → Data
sole name value = object (member name value no_members)

-- the body of a reply
abbrev pub body_of : Reply → Data
body_of reply.Done = sole (codes "done") (boolean true)
body_of (reply.Numbers numbers) = sole (codes "numbers") (listed (map whole numbers))
body_of (reply.Revision revision) = sole (codes "revision") (whole revision)
body_of (reply.View view) = view_body view
body_of (reply.Incidents entries) = sole (codes "incidents") (listed (map entry_object entries))
body_of (reply.Groups groups) = sole (codes "groups") (listed (map group_object groups))
body_of (reply.Communities communities) = sole (codes "communities") (listed (map community_object communities))
body_of (reply.Sharing sharing) = sharing_body sharing
body_of (reply.Caller person) = caller_body person
body_of (reply.Trace text) = sole (codes "trace") (string text)
body_of (reply.Refused refusal) = refusal_body (name_of refusal.code) refusal.detail (reason_of refusal.code)
