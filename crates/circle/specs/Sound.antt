-- When a directory is sound.
use Rattle.std.specs.Prelude.{◌≡◌, ◌≢◌, ℕ, ◌+◌, ◌≤◌, ◌<◌, ◌==◌, List, [], ◌∷◌, length, IsTrue}
use Rattle.std.specs.declared.cmp.Ordering.TheVariants.{Less}
use Rattle.std.specs.List.{AllByRecursion, list_any}
use Rattle.circle.specs.declared.TheConstants.{ORG_LIMIT, PERSON_LIMIT, COMMUNITY_LIMIT, GROUP_LIMIT}
use Rattle.circle.specs.declared.directory.Org.{Org}
use Rattle.circle.specs.declared.directory.Account.{Account}
use Rattle.circle.specs.declared.directory.Client.{Client}
use Rattle.circle.specs.declared.directory.Community.{Community}
use Rattle.circle.specs.declared.directory.Membership.{Membership}
use Rattle.circle.specs.declared.directory.Connection.{Connection}
use Rattle.circle.specs.declared.directory.Group.{Group}
use Rattle.circle.specs.declared.directory.GroupMember.{GroupMember}
use Rattle.circle.specs.declared.directory.Arrangement.{Arrangement}
use Rattle.circle.specs.Ordered.{by_pair}
use Rattle.circle.specs.Directory.{Directory, org_number, account_number, community_number, group_number, client_key, membership_key, connection_key}
use Rattle.circle.specs.Directory.{group_member_key, arrangement_key, has_extender}

-- this relation holds between each element and each later one
abbrev pub Pairwise : {X : Type 0} → (X → X → Type 0) → List X → Type 0
Pairwise R [] = Unit {0}
Pairwise R (x ∷ xs) = AllByRecursion (R x) xs × Pairwise R xs

-- this holds of each element
abbrev pub Each : {X : Type 0} → (X → Type 0) → List X → Type 0
Each = AllByRecursion

-- the rows have the numbers n + 1, n + 2 and so on, without a gap
abbrev pub CountsFrom : {X : Type 0} → (X → ℕ) → ℕ → List X → Type 0
CountsFrom number n [] = Unit {0}
CountsFrom number n (x ∷ xs) = (number x ≡ n + 1) × CountsFrom number (n + 1) xs

-- there are at most so many rows, numbered from 1 without a gap
abbrev pub IsNumbered : {X : Type 0} → (X → ℕ) → ℕ → List X → Type 0
IsNumbered number limit rows = CountsFrom number 0 rows × (length rows ≤ limit)

-- no two rows have the same key
abbrev pub Differ : {X K : Type 0} → (X → K) → List X → Type 0
Differ key rows = Pairwise (λ a b. key a ≢ key b) rows

-- the rows are in the order of their pairs, and no two have the same
abbrev pub Rise : {X : Type 0} → (X → ℕ × ℕ) → List X → Type 0
Rise key rows = Pairwise (λ a b. by_pair key a b ≡ Less) rows

-- one of the rows has this number
abbrev pub Names : {X : Type 0} → (X → ℕ) → List X → ℕ → Type 0
Names number rows n = IsTrue (list_any (λ x. number x == n) rows)

-- one of the organisations has this number
abbrev pub IsOrg : List Org → ℕ → Type 0
IsOrg = Names org_number

-- one of the communities has this number
abbrev pub IsCommunity : List Community → ℕ → Type 0
IsCommunity = Names community_number

-- one of the groups has this number
abbrev pub IsGroup : List Group → ℕ → Type 0
IsGroup = Names group_number

-- organisations are numbered without a gap up to the limit, and no two have the same name
pub record SoundOrgs (orgs : List Org) : Type 0 where
  pub numbered : IsNumbered org_number ORG_LIMIT orgs
  pub names : Differ (λ (o : Org). o.name) orgs

-- persons are numbered without a gap up to the limit, no two have the same key, and each one's organisation is there
pub record SoundAccounts (orgs : List Org) (accounts : List Account) : Type 0 where
  pub numbered : IsNumbered account_number PERSON_LIMIT accounts
  pub keys : Differ (λ (a : Account). a.key) accounts
  pub ends : Each (λ (a : Account). IsOrg orgs a.person.org) accounts

-- clients are in order, none twice, and both organisations are there
pub record SoundClients (orgs : List Org) (clients : List Client) : Type 0 where
  pub rising : Rise client_key clients
  pub ends : Each (λ (c : Client). IsOrg orgs c.org × IsOrg orgs c.client) clients

-- communities are numbered without a gap up to the limit, and no two have the same name
pub record SoundCommunities (communities : List Community) : Type 0 where
  pub numbered : IsNumbered community_number COMMUNITY_LIMIT communities
  pub names : Differ (λ (c : Community). c.name) communities

-- memberships are in order, none twice, and the community and the organisation are there
pub record SoundMemberships (orgs : List Org) (communities : List Community) (memberships : List Membership) : Type 0 where
  pub rising : Rise membership_key memberships
  pub ends : Each (λ (m : Membership). IsCommunity communities m.community × IsOrg orgs m.org) memberships

-- connections are in order, none twice, the smaller number first, and both communities are there
pub record SoundConnections (communities : List Community) (connections : List Connection) : Type 0 where
  pub rising : Rise connection_key connections
  pub ends : Each (λ (l : Connection). (l.low < l.high) × IsCommunity communities l.low × IsCommunity communities l.high) connections

-- groups are numbered without a gap up to the limit, no two of one owner have the same name, and each owner is there
pub record SoundGroups (orgs : List Org) (groups : List Group) : Type 0 where
  pub numbered : IsNumbered group_number GROUP_LIMIT groups
  pub names : Differ {K = ℕ × List ℕ} (λ (g : Group). (g.owner, g.name)) groups
  pub ends : Each (λ (g : Group). IsOrg orgs g.owner) groups

-- the members of groups are in order, none twice, and the group and the organisation are there
pub record SoundGroupMembers (orgs : List Org) (groups : List Group) (members : List GroupMember) : Type 0 where
  pub rising : Rise group_member_key members
  pub ends : Each (λ (m : GroupMember). IsGroup groups m.group × IsOrg orgs m.org) members

-- arrangements are in order, none twice, and both organisations are there
pub record SoundArrangements (orgs : List Org) (arrangements : List Arrangement) : Type 0 where
  pub rising : Rise arrangement_key arrangements
  pub ends : Each (λ (a : Arrangement). IsOrg orgs a.source × IsOrg orgs a.org) arrangements

-- A directory is sound: each of its sets is. It doesn't ask that a group's owner is a member that may extend it; that
-- is a property of its own.
pub record IsSound (d : Directory) : Type 0 where
  pub orgs : SoundOrgs d.orgs
  pub accounts : SoundAccounts d.orgs d.accounts
  pub clients : SoundClients d.orgs d.clients
  pub communities : SoundCommunities d.communities
  pub memberships : SoundMemberships d.orgs d.communities d.memberships
  pub connections : SoundConnections d.communities d.connections
  pub groups : SoundGroups d.orgs d.groups
  pub group_members : SoundGroupMembers d.orgs d.groups d.group_members
  pub arrangements : SoundArrangements d.orgs d.arrangements

-- the owner of each group is a member that may extend it
abbrev pub OwnersExtend : Directory → Type 0
OwnersExtend d = Each (λ (g : Group). IsTrue (has_extender g.number g.owner d)) d.groups
