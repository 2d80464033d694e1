-- The facts that a shelf has to find out about a command. A fact that the command doesn't ask for is true for
-- `exists`, else false or 0.
use Rattle.std.specs.Prelude.{ℕ, Bool, true, false, ◌&&◌, length, min, max}
use Rattle.circle.specs.declared.directory.Person.{Person}
use Rattle.circle.specs.declared.command.CircleCommand.{CircleCommand}
use Rattle.circle.specs.declared.command.CircleCommand.TheVariants.{AddOrg, AddPerson, SuspendPerson, AddClient, RemoveClient, AddCommunity, Join, Leave, Link}
use Rattle.circle.specs.declared.command.CircleCommand.TheVariants.{Unlink, NewGroup, GroupAdd, GroupRemove, GroupActive, Arrange, CancelArrange, Nominate}
use Rattle.circle.specs.declared.command.CircleCommand.TheVariants.{Unnominate, NewKey}
use Rattle.circle.specs.declared.command.CircleFacts.{CircleFacts}
use Rattle.circle.specs.Directory.{Directory, has_org, has_org_named, has_person, has_key, has_suspended, has_nominated, has_person_of, has_client}
use Rattle.circle.specs.Directory.{has_community, has_community_named, has_membership, has_connection, has_group_named, has_group_of, has_group_being}
use Rattle.circle.specs.Directory.{has_group_member, has_extender, has_arrangement}

-- All that the command names is there; a group is there only for its members. It is false exactly if the ground `N2`
-- holds.
abbrev pub exists_in : Directory → Person → CircleCommand → Bool
exists_in d a (AddPerson org name role key) = has_org org d
exists_in d a (SuspendPerson person) = has_person person d
exists_in d a (AddClient org client) = has_org org d && has_org client d
exists_in d a (RemoveClient org client) = has_org org d && has_org client d
exists_in d a (Join community org) = has_community community d && has_org org d
exists_in d a (Leave community org) = has_community community d && has_org org d
exists_in d a (Link community other) = has_community community d && has_community other d
exists_in d a (Unlink community other) = has_community community d && has_community other d
exists_in d a (GroupAdd group org extend) = has_group_member group a.org d && has_org org d
exists_in d a (GroupRemove group org) = has_group_member group a.org d && has_org org d
exists_in d a (GroupActive group active) = has_group_member group a.org d
exists_in d a (Arrange org handling) = has_org org d
exists_in d a (CancelArrange org) = has_org org d
exists_in d a (Nominate person) = has_person person d
exists_in d a (Unnominate person) = has_person person d
exists_in d a _ = true

-- the actor's organisation may extend the group that is named
abbrev pub may_extend_in : Directory → Person → CircleCommand → Bool
may_extend_in d a (GroupAdd group org extend) = has_extender group a.org d
may_extend_in d a (GroupRemove group org) = has_extender group a.org d
may_extend_in d a (GroupActive group active) = has_extender group a.org d
may_extend_in d a _ = false

-- the actor's organisation owns the group that is named
abbrev pub owns_in : Directory → Person → CircleCommand → Bool
owns_in d a (GroupAdd group org extend) = has_group_of group a.org d
owns_in d a (GroupRemove group org) = has_group_of group a.org d
owns_in d a (GroupActive group active) = has_group_of group a.org d
owns_in d a _ = false

-- the organisation that is named owns the group
abbrev pub target_owns_in : Directory → CircleCommand → Bool
target_owns_in d (GroupRemove group org) = has_group_of group org d
target_owns_in d _ = false

-- the person is of the actor's organisation
abbrev pub is_own_person : Directory → Person → CircleCommand → Bool
is_own_person d a (Nominate person) = has_person_of person a.org d
is_own_person d a (Unnominate person) = has_person_of person a.org d
is_own_person d a _ = false

-- the row, name, key or flag that the command would bring about is there; for a removal, the one that it would take
-- back
abbrev pub stands_in : Directory → Person → CircleCommand → Bool
stands_in d a (AddOrg name) = has_org_named name d
stands_in d a (AddPerson org name role key) = has_key key d
stands_in d a (SuspendPerson person) = has_suspended person d
stands_in d a (AddClient org client) = has_client org client d
stands_in d a (RemoveClient org client) = has_client org client d
stands_in d a (AddCommunity name) = has_community_named name d
stands_in d a (Join community org) = has_membership community org d
stands_in d a (Leave community org) = has_membership community org d
stands_in d a (Link community other) = has_connection (min community other) (max community other) d
stands_in d a (Unlink community other) = has_connection (min community other) (max community other) d
stands_in d a (NewGroup name releasability) = has_group_named a.org name d
stands_in d a (GroupAdd group org extend) = has_group_member group org d
stands_in d a (GroupRemove group org) = has_group_member group org d
stands_in d a (GroupActive group active) = has_group_being group active d
stands_in d a (Arrange org handling) = has_arrangement a.org org d
stands_in d a (CancelArrange org) = has_arrangement a.org org d
stands_in d a (Nominate person) = has_nominated person d
stands_in d a (Unnominate person) = has_nominated person d
stands_in d a (NewKey key) = has_key key d

-- how many rows there are of the kind that the command numbers
abbrev pub count_in : Directory → CircleCommand → ℕ
count_in d (AddOrg name) = length d.orgs
count_in d (AddPerson org name role key) = length d.accounts
count_in d (AddCommunity name) = length d.communities
count_in d (NewGroup name releasability) = length d.groups
count_in d _ = 0

-- all facts of the actor's command
abbrev pub facts_of : Directory → Person → CircleCommand → CircleFacts
facts_of d actor command = record {
  exists = exists_in d actor command;
  may_extend = may_extend_in d actor command;
  owner = owns_in d actor command;
  target_is_owner = target_owns_in d command;
  own_person = is_own_person d actor command;
  stands = stands_in d actor command;
  count = count_in d command;
}
