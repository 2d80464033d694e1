-- Reading all rows of a state without its documents: what each set shows, and the edits that put its elements.
use Rattle.std.specs.Prelude.{◌≡◌, pos, List, [], ◌∷◌, ◌++◌, map}
use Rattle.sqlite_value.specs.declared.value.Value.TheVariants.{Int, Text, Blob}
use Rattle.sqlite_value.specs.Order.{Row}
use Rattle.circle.specs.declared.command.RowEdit.TheVariants.{PutOrg, PutAccount, PutClient, PutCommunity, PutMembership, PutConnection, PutGroup}
use Rattle.circle.specs.declared.command.RowEdit.TheVariants.{PutGroupMember, PutArrangement}
use Rattle.circle.specs.declared.directory.Org.{Org}
use Rattle.circle.specs.declared.directory.Account.{Account}
use Rattle.circle.specs.declared.directory.Client.{Client}
use Rattle.circle.specs.declared.directory.Community.{Community}
use Rattle.circle.specs.declared.directory.Membership.{Membership}
use Rattle.circle.specs.declared.directory.Connection.{Connection}
use Rattle.circle.specs.declared.directory.Group.{Group}
use Rattle.circle.specs.declared.directory.GroupMember.{GroupMember}
use Rattle.circle.specs.declared.directory.Arrangement.{Arrangement}
use Rattle.hub_state.specs.State.{State}
use Rattle.hub_state.specs.Edits.{with_edits}
use Rattle.hub_state.specs.declared.edit.Edit.{Edit}
use Rattle.hub_state.specs.declared.edit.Edit.TheVariants.{Directory, PutIncident, PutGate, PutRecipient, PutPermission}
use Rattle.hub_state.specs.declared.state.Incident.{Incident}
use Rattle.hub_state.specs.declared.state.Naming.{Naming}
use Rattle.hub_state.specs.declared.state.Gate.{Gate}
use Rattle.hub_state.specs.declared.state.Recipient.{Recipient}
use Rattle.hub_state.specs.declared.state.Permission.{Permission}
use Rattle.hub_store.specs.Values.{flag, number_or_null}
use Rattle.hub_store.specs.Pairs.{Pair}
use Rattle.hub_store.specs.Rows.{role_number, client_pair, membership_pair, connection_pair, group_member_pair, arrangement_pair}
use Rattle.hub_store.specs.inner.Shown.{ShowsAll}

-- ---- the columns that the queries name

-- the columns of an organisation
abbrev pub org_shown : Org → Row
org_shown o = Int (pos o.number) ∷ Text o.name ∷ []

-- the columns of a person with its key
abbrev pub account_shown : Account → Row
account_shown a =
    Int (pos a.person.number) ∷ Int (pos a.person.org) ∷ Text a.person.name ∷ Int (pos (role_number a.person.role)) ∷ flag a.person.active ∷ flag a.person.nominated ∷ Blob a.key ∷ []

-- the columns of a community
abbrev pub community_shown : Community → Row
community_shown c = Int (pos c.number) ∷ Text c.name ∷ []

-- the columns of a pair
abbrev pub pair_shown : Pair → Row
pair_shown p = Int (pos p.0.0) ∷ Int (pos p.0.1) ∷ number_or_null p.1 ∷ []

-- the columns of a client
abbrev pub client_shown : Client → Row
client_shown c = pair_shown (client_pair c)

-- the columns of a membership
abbrev pub membership_shown : Membership → Row
membership_shown m = pair_shown (membership_pair m)

-- the columns of a connection
abbrev pub connection_shown : Connection → Row
connection_shown l = pair_shown (connection_pair l)

-- the columns of a member of a group
abbrev pub group_member_shown : GroupMember → Row
group_member_shown m = pair_shown (group_member_pair m)

-- the columns of an arrangement
abbrev pub arrangement_shown : Arrangement → Row
arrangement_shown a = pair_shown (arrangement_pair a)

-- ---- the edits that put the elements

-- puts an organisation
abbrev pub org_edit : Org → Edit
org_edit o = Directory (PutOrg o)

-- puts a person with its key
abbrev pub account_edit : Account → Edit
account_edit a = Directory (PutAccount a)

-- puts a community
abbrev pub community_edit : Community → Edit
community_edit c = Directory (PutCommunity c)

-- puts a group
abbrev pub group_edit : Group → Edit
group_edit g = Directory (PutGroup g)

-- puts a client
abbrev pub client_edit : Client → Edit
client_edit c = Directory (PutClient c)

-- puts a membership
abbrev pub membership_edit : Membership → Edit
membership_edit m = Directory (PutMembership m)

-- puts a connection
abbrev pub connection_edit : Connection → Edit
connection_edit l = Directory (PutConnection l)

-- puts a member of a group
abbrev pub group_member_edit : GroupMember → Edit
group_member_edit m = Directory (PutGroupMember m)

-- puts an arrangement
abbrev pub arrangement_edit : Arrangement → Edit
arrangement_edit a = Directory (PutArrangement a)

-- puts an incident of this naming without a document
abbrev pub naming_edit : Naming → Edit
naming_edit k = PutIncident (record { naming = k; document = [] })

-- puts a gate
abbrev pub gate_edit : Gate → Edit
gate_edit g = PutGate g

-- puts a recipient
abbrev pub recipient_edit : Recipient → Edit
recipient_edit r = PutRecipient r

-- puts a permission
abbrev pub permission_edit : Permission → Edit
permission_edit x = PutPermission x

-- ---- the sets of a state, as edits

-- the namings of all incidents
abbrev pub namings : State → List Naming
namings s = map (λ (i : Incident). i.naming) s.incidents

-- puts the organisations
abbrev pub org_edits : State → List Edit
org_edits s = map org_edit s.directory.orgs

-- puts the persons with their keys
abbrev pub account_edits : State → List Edit
account_edits s = map account_edit s.directory.accounts

-- puts the communities
abbrev pub community_edits : State → List Edit
community_edits s = map community_edit s.directory.communities

-- puts the groups
abbrev pub group_edits : State → List Edit
group_edits s = map group_edit s.directory.groups

-- puts the clients
abbrev pub client_edits : State → List Edit
client_edits s = map client_edit s.directory.clients

-- puts the memberships
abbrev pub membership_edits : State → List Edit
membership_edits s = map membership_edit s.directory.memberships

-- puts the connections
abbrev pub connection_edits : State → List Edit
connection_edits s = map connection_edit s.directory.connections

-- puts the members of groups
abbrev pub group_member_edits : State → List Edit
group_member_edits s = map group_member_edit s.directory.group_members

-- puts the arrangements
abbrev pub arrangement_edits : State → List Edit
arrangement_edits s = map arrangement_edit s.directory.arrangements

-- puts the incidents without their documents
abbrev pub naming_edits : State → List Edit
naming_edits s = map naming_edit (namings s)

-- puts the gates
abbrev pub gate_edits : State → List Edit
gate_edits s = map gate_edit s.gates

-- puts the recipients
abbrev pub recipient_edits : State → List Edit
recipient_edits s = map recipient_edit s.recipients

-- puts the permissions
abbrev pub permission_edits : State → List Edit
permission_edits s = map permission_edit s.permissions

-- puts the four sets of the directory whose rows have numbers
abbrev pub numbered_edits : State → List Edit
numbered_edits s = org_edits s ++ (account_edits s ++ (community_edits s ++ group_edits s))

-- puts the five sets of the table of pairs
abbrev pub pair_edits : State → List Edit
pair_edits s = client_edits s ++ (membership_edits s ++ (connection_edits s ++ (group_member_edits s ++ arrangement_edits s)))

-- puts the four sets of incidents
abbrev pub incident_edits : State → List Edit
incident_edits s = naming_edits s ++ (gate_edits s ++ (recipient_edits s ++ permission_edits s))

-- puts all sets
abbrev pub all_edits : State → List Edit
all_edits s = numbered_edits s ++ (pair_edits s ++ incident_edits s)

-- ---- what is made of the rows

-- the rows that were shown are put
pub record ArePut {X : Type 0} (shows : Row → X → Type 0) (edit : X → Edit) (shown : List Row) (before after : State) : Type 0 where
  pub found : List X
  pub seen : ShowsAll shows shown found
  pub made : after ≡ with_edits (map edit found) before

-- the elements of some sets of the state are put
abbrev pub Adds : (State → List Edit) → State → State → State → Type 0
Adds edits before s after = after ≡ with_edits (edits s) before
