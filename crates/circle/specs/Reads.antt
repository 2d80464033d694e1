-- What is asked of a directory besides its commands.
use Rattle.std.specs.Prelude.{ℕ, Bool, true, ◌&&◌, ◌||◌, ◌==◌, List, ◌++◌, map, filter, find, Option, option_map}
use Rattle.std.specs.List.{list_any}
use Rattle.std.specs.Str.{bytes_eq}
use Rattle.circle.specs.declared.directory.Handling.{Handling}
use Rattle.circle.specs.declared.directory.Person.{Person}
use Rattle.circle.specs.declared.directory.Account.{Account}
use Rattle.circle.specs.declared.directory.Client.{Client}
use Rattle.circle.specs.declared.directory.Community.{Community}
use Rattle.circle.specs.declared.directory.Membership.{Membership}
use Rattle.circle.specs.declared.directory.Connection.{Connection}
use Rattle.circle.specs.declared.directory.Group.{Group}
use Rattle.circle.specs.declared.directory.GroupMember.{GroupMember}
use Rattle.circle.specs.declared.directory.Arrangement.{Arrangement}
use Rattle.circle.specs.Directory.{Directory, has_membership, has_group_being}

-- ---- rows

-- the person of an account
abbrev pub person_in : Account → Person
person_in a = a.person

-- the person with this key, active or not
abbrev pub person_of_key : List ℕ → Directory → Option Person
person_of_key key d = option_map person_in (find (λ (a : Account). bytes_eq a.key key) d.accounts)

-- the person with this number
abbrev pub person_of : ℕ → Directory → Option Person
person_of n d = option_map person_in (find (λ (a : Account). a.person.number == n) d.accounts)

-- the group with this number
abbrev pub group_of : ℕ → Directory → Option Group
group_of n d = find (λ (g : Group). g.number == n) d.groups

-- the community with this number
abbrev pub community_of : ℕ → Directory → Option Community
community_of n d = find (λ (c : Community). c.number == n) d.communities

-- ---- what a community is made of, by number

-- the organisations that are members of the community, by number
abbrev pub members_of : ℕ → Directory → List ℕ
members_of community d = map (λ (m : Membership). m.org) (filter (λ (m : Membership). m.community == community) d.memberships)

-- The communities that are connected to this one, by number: a connection has the smaller number first, so those below
-- this one come first.
abbrev pub connected_to : ℕ → Directory → List ℕ
connected_to community d =
    map (λ (l : Connection). l.low) (filter (λ (l : Connection). l.high == community) d.connections)
    ++ map (λ (l : Connection). l.high) (filter (λ (l : Connection). l.low == community) d.connections)

-- ---- what an organisation is part of, by number

-- the communities of which the organisation is a member, by number
abbrev pub communities_of : ℕ → Directory → List ℕ
communities_of org d = map (λ (m : Membership). m.community) (filter (λ (m : Membership). m.org == org) d.memberships)

-- the rows of the organisation among the members of groups
abbrev pub memberships_in_groups : ℕ → Directory → List GroupMember
memberships_in_groups org d = filter (λ (m : GroupMember). m.org == org) d.group_members

-- the groups of which the organisation is a member, by number
abbrev pub groups_joined : ℕ → Directory → List ℕ
groups_joined org d = map (λ (m : GroupMember). m.group) (memberships_in_groups org d)

-- the active groups of which the organisation is a member
abbrev pub active_groups_joined : ℕ → Directory → List ℕ
active_groups_joined org d = filter (λ n. has_group_being n true d) (groups_joined org d)

-- the organisations whose client it is
abbrev pub orgs_whose_client : ℕ → Directory → List ℕ
orgs_whose_client client d = map (λ (c : Client). c.org) (filter (λ (c : Client). c.client == client) d.clients)

-- ---- two organisations

-- both organisations are members of one community
abbrev pub share_community : ℕ → ℕ → Directory → Bool
share_community org other d = list_any (λ n. has_membership n other d) (communities_of org d)

-- of the two connected communities, one organisation is in the one and the other in the other
abbrev pub joins : ℕ → ℕ → Directory → Connection → Bool
joins org other d l =
    (has_membership l.low org d && has_membership l.high other d) || (has_membership l.high org d && has_membership l.low other d)

-- some connection joins communities of both organisations
abbrev pub are_connected : ℕ → ℕ → Directory → Bool
are_connected org other d = list_any (joins org other d) d.connections

-- what the source arranged with the organisation, if anything
abbrev pub arranged : ℕ → ℕ → Directory → Option Handling
arranged source org d = option_map (λ (a : Arrangement). a.handling) (find (λ (a : Arrangement). a.source == source && a.org == org) d.arrangements)
