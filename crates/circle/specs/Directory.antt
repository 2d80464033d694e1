-- The directory: each set as the list of its rows in the order of the key, and tests of its rows.
use Rattle.std.specs.Prelude.{ℕ, Bool, not, ◌&&◌, ◌==◌, List, [], if◌then◌else◌}
use Rattle.std.specs.List.{list_any}
use Rattle.std.specs.Str.{bytes_eq}
use Rattle.circle.specs.declared.directory.Org.{Org}
use Rattle.circle.specs.declared.directory.Account.{Account}
use Rattle.circle.specs.declared.directory.Client.{Client}
use Rattle.circle.specs.declared.directory.Community.{Community}
use Rattle.circle.specs.declared.directory.Membership.{Membership}
use Rattle.circle.specs.declared.directory.Connection.{Connection}
use Rattle.circle.specs.declared.directory.Group.{Group}
use Rattle.circle.specs.declared.directory.GroupMember.{GroupMember}
use Rattle.circle.specs.declared.directory.Arrangement.{Arrangement}

-- The organisations, persons with their keys, clients, communities, memberships, connections, groups, group members
-- and arrangements; each a list in the order of its key.
pub record Directory : Type 0 where
  pub orgs : List Org
  pub accounts : List Account
  pub clients : List Client
  pub communities : List Community
  pub memberships : List Membership
  pub connections : List Connection
  pub groups : List Group
  pub group_members : List GroupMember
  pub arrangements : List Arrangement

-- the directory without a row
abbrev pub empty : Directory
empty = record { orgs = []; accounts = []; clients = []; communities = []; memberships = []; connections = []; groups = []; group_members = []; arrangements = [] }

-- ---- keys

-- the key of an organisation: its number
abbrev pub org_number : Org → ℕ
org_number o = o.number

-- the key of an account: the number of its person
abbrev pub account_number : Account → ℕ
account_number a = a.person.number

-- the key of a community: its number
abbrev pub community_number : Community → ℕ
community_number c = c.number

-- the key of a group: its number
abbrev pub group_number : Group → ℕ
group_number g = g.number

-- the key of a client: the organisation's number, then the client's
abbrev pub client_key : Client → ℕ × ℕ
client_key c = (c.org, c.client)

-- the key of a membership: the community's number, then the organisation's
abbrev pub membership_key : Membership → ℕ × ℕ
membership_key m = (m.community, m.org)

-- the key of a connection: the smaller number, then the greater
abbrev pub connection_key : Connection → ℕ × ℕ
connection_key c = (c.low, c.high)

-- the key of a group's member: the group's number, then the organisation's
abbrev pub group_member_key : GroupMember → ℕ × ℕ
group_member_key m = (m.group, m.org)

-- the key of an arrangement: the source's number, then the organisation's
abbrev pub arrangement_key : Arrangement → ℕ × ℕ
arrangement_key a = (a.source, a.org)

-- ---- whether there is such a row

-- whether there is an organisation with this number
abbrev pub has_org : ℕ → Directory → Bool
has_org n d = list_any (λ (o : Org). o.number == n) d.orgs

-- whether there is an organisation with this name
abbrev pub has_org_named : List ℕ → Directory → Bool
has_org_named name d = list_any (λ (o : Org). bytes_eq o.name name) d.orgs

-- whether there is a person with this number
abbrev pub has_person : ℕ → Directory → Bool
has_person n d = list_any (λ (a : Account). a.person.number == n) d.accounts

-- whether a person, suspended or not, has the key with this SHA-256
abbrev pub has_key : List ℕ → Directory → Bool
has_key key d = list_any (λ (a : Account). bytes_eq a.key key) d.accounts

-- whether the person is there and is suspended
abbrev pub has_suspended : ℕ → Directory → Bool
has_suspended n d = list_any (λ (a : Account). a.person.number == n && not a.person.active) d.accounts

-- whether the person is there and is nominated
abbrev pub has_nominated : ℕ → Directory → Bool
has_nominated n d = list_any (λ (a : Account). a.person.number == n && a.person.nominated) d.accounts

-- whether the person is there and is of the organisation
abbrev pub has_person_of : ℕ → ℕ → Directory → Bool
has_person_of n org d = list_any (λ (a : Account). a.person.number == n && a.person.org == org) d.accounts

-- whether the first organisation has the second as a client
abbrev pub has_client : ℕ → ℕ → Directory → Bool
has_client org client d = list_any (λ (c : Client). c.org == org && c.client == client) d.clients

-- whether there is a community with this number
abbrev pub has_community : ℕ → Directory → Bool
has_community n d = list_any (λ (c : Community). c.number == n) d.communities

-- whether there is a community with this name
abbrev pub has_community_named : List ℕ → Directory → Bool
has_community_named name d = list_any (λ (c : Community). bytes_eq c.name name) d.communities

-- whether the organisation is a member of the community
abbrev pub has_membership : ℕ → ℕ → Directory → Bool
has_membership community org d = list_any (λ (m : Membership). m.community == community && m.org == org) d.memberships

-- whether the two communities are connected, given the smaller number first
abbrev pub has_connection : ℕ → ℕ → Directory → Bool
has_connection low high d = list_any (λ (l : Connection). l.low == low && l.high == high) d.connections

-- whether there is a group with this number
abbrev pub has_group : ℕ → Directory → Bool
has_group n d = list_any (λ (g : Group). g.number == n) d.groups

-- whether the organisation owns a group with this name
abbrev pub has_group_named : ℕ → List ℕ → Directory → Bool
has_group_named owner name d = list_any (λ (g : Group). g.owner == owner && bytes_eq g.name name) d.groups

-- whether the group is there and the organisation owns it
abbrev pub has_group_of : ℕ → ℕ → Directory → Bool
has_group_of n owner d = list_any (λ (g : Group). g.number == n && g.owner == owner) d.groups

-- whether two flags have the same value
abbrev pub same_flag : Bool → Bool → Bool
same_flag a b = if a then b else not b

-- whether the group is there and its flag has this value
abbrev pub has_group_being : ℕ → Bool → Directory → Bool
has_group_being n active d = list_any (λ (g : Group). g.number == n && same_flag active g.active) d.groups

-- whether the organisation is a member of the group
abbrev pub has_group_member : ℕ → ℕ → Directory → Bool
has_group_member group org d = list_any (λ (m : GroupMember). m.group == group && m.org == org) d.group_members

-- whether the organisation is a member of the group that may extend it
abbrev pub has_extender : ℕ → ℕ → Directory → Bool
has_extender group org d = list_any (λ (m : GroupMember). m.group == group && m.org == org && m.extend) d.group_members

-- whether the source arranged something with the organisation
abbrev pub has_arrangement : ℕ → ℕ → Directory → Bool
has_arrangement source org d = list_any (λ (a : Arrangement). a.source == source && a.org == org) d.arrangements
