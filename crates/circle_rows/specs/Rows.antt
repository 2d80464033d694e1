-- The directory that rows in memory make.
use Rattle.std.specs.Prelude.{ℕ, ◌+◌, ◌≤◌, List}
use Rattle.std.specs.Vec.{vec_len, vec_capacity}
use Rattle.circle.specs.Directory.{Directory, org_number, account_number, community_number, group_number, client_key, membership_key, connection_key}
use Rattle.circle.specs.Directory.{group_member_key, arrangement_key}
use Rattle.circle.specs.Stretches.{Ascend, numbered}
use Rattle.circle.specs.declared.command.RowEdit.{RowEdit}
use Rattle.circle_rows.specs.declared.sets.Sets.{Sets}

-- the directory of the rows in memory
abbrev pub directory_of : Sets → Directory
directory_of s = record {
  orgs = s.orgs.items;
  accounts = s.accounts.items;
  clients = s.clients.items;
  communities = s.communities.items;
  memberships = s.memberships.items;
  connections = s.connections.items;
  groups = s.groups.items;
  group_members = s.group_members.items;
  arrangements = s.arrangements.items;
}

-- each set is in the order of its key
pub record IsAscending (d : Directory) : Type 0 where
  pub orgs : Ascend (numbered org_number) d.orgs
  pub accounts : Ascend (numbered account_number) d.accounts
  pub clients : Ascend client_key d.clients
  pub communities : Ascend (numbered community_number) d.communities
  pub memberships : Ascend membership_key d.memberships
  pub connections : Ascend connection_key d.connections
  pub groups : Ascend (numbered group_number) d.groups
  pub group_members : Ascend group_member_key d.group_members
  pub arrangements : Ascend arrangement_key d.arrangements

-- each set takes this many rows more without allocating
pub record HasRoom (n : ℕ) (s : Sets) : Type 0 where
  pub orgs : vec_len s.orgs + n ≤ vec_capacity s.orgs
  pub accounts : vec_len s.accounts + n ≤ vec_capacity s.accounts
  pub clients : vec_len s.clients + n ≤ vec_capacity s.clients
  pub communities : vec_len s.communities + n ≤ vec_capacity s.communities
  pub memberships : vec_len s.memberships + n ≤ vec_capacity s.memberships
  pub connections : vec_len s.connections + n ≤ vec_capacity s.connections
  pub groups : vec_len s.groups + n ≤ vec_capacity s.groups
  pub group_members : vec_len s.group_members + n ≤ vec_capacity s.group_members
  pub arrangements : vec_len s.arrangements + n ≤ vec_capacity s.arrangements

-- a directory, and edits of it that are still to be made
pub record Ready : Type 0 where
  pub rows : Directory
  pub edits : List RowEdit
