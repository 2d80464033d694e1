-- What a command changes.
use Rattle.std.specs.Prelude.{ℕ, ◌+◌, true, false, not, ◌&&◌, ◌==◌, List, [], ◌∷◌, map, filter, Option, Some, None, if◌then◌else◌, min, max}
use Rattle.circle.specs.declared.directory.Person.{Person}
use Rattle.circle.specs.declared.directory.Account.{Account}
use Rattle.circle.specs.declared.directory.Client.{Client}
use Rattle.circle.specs.declared.directory.Membership.{Membership}
use Rattle.circle.specs.declared.directory.Connection.{Connection}
use Rattle.circle.specs.declared.directory.Group.{Group}
use Rattle.circle.specs.declared.directory.GroupMember.{GroupMember}
use Rattle.circle.specs.declared.directory.Arrangement.{Arrangement}
use Rattle.circle.specs.declared.command.CircleCommand.{CircleCommand}
use Rattle.circle.specs.declared.command.CircleCommand.TheVariants.{AddOrg, AddPerson, SuspendPerson, AddClient, RemoveClient, AddCommunity, Join, Leave, Link}
use Rattle.circle.specs.declared.command.CircleCommand.TheVariants.{Unlink, NewGroup, GroupAdd, GroupRemove, GroupActive, Arrange, CancelArrange, Nominate}
use Rattle.circle.specs.declared.command.CircleCommand.TheVariants.{Unnominate, NewKey}
use Rattle.circle.specs.declared.command.Edit.{Edit}
use Rattle.circle.specs.declared.command.Edit.TheVariants.{Row, Found}
use Rattle.circle.specs.declared.command.RowEdit.{RowEdit}
use Rattle.circle.specs.declared.command.RowEdit.TheVariants.{PutOrg, PutAccount, Suspend, PutClient, TakeClient, PutCommunity, PutMembership, TakeMembership}
use Rattle.circle.specs.declared.command.RowEdit.TheVariants.{PutConnection, TakeConnection, PutGroup, PutGroupMember, TakeGroupMember, SetGroupActive}
use Rattle.circle.specs.declared.command.RowEdit.TheVariants.{PutArrangement, TakeArrangement, SetNominated, SetKey}
use Rattle.circle.specs.declared.refusal.Refusal.{Refusal}
use Rattle.circle.specs.Ordered.{put_by, by_number, by_pair}
use Rattle.circle.specs.Directory.{Directory, org_number, account_number, community_number, group_number, client_key, membership_key, connection_key}
use Rattle.circle.specs.Directory.{group_member_key, arrangement_key}
use Rattle.circle.specs.Refusals.{refusal_of}

-- ---- edits

-- the accounts, with the person of this number changed by f
abbrev pub exchange_account : ℕ → (Person → Person) → List Account → List Account
exchange_account n f = map (λ (a : Account). if a.person.number == n then record a { person = f a.person } else a)

-- the accounts, with another key for the person of this number
abbrev pub exchange_key : ℕ → List ℕ → List Account → List Account
exchange_key n key = map (λ (a : Account). if a.person.number == n then record a { key = key } else a)

-- the groups, with the group of this number changed by f
abbrev pub exchange_group : ℕ → (Group → Group) → List Group → List Group
exchange_group n f = map (λ (g : Group). if g.number == n then f g else g)

-- the members of groups, with one more at its place
abbrev pub put_group_member : GroupMember → List GroupMember → List GroupMember
put_group_member = put_by (by_pair group_member_key)

-- The directory after an edit of one row. A row that is put in comes before the first row above it and never replaces
-- one; a row that is taken out is found by its key.
abbrev pub edited_row : RowEdit → Directory → Directory
edited_row (PutOrg org) d = record d { orgs = put_by (by_number org_number) org d.orgs }
edited_row (PutAccount account) d = record d { accounts = put_by (by_number account_number) account d.accounts }
edited_row (Suspend person) d = record d { accounts = exchange_account person (λ (p : Person). record p { active = false }) d.accounts }
edited_row (SetNominated person nominated) d = record d { accounts = exchange_account person (λ (p : Person). record p { nominated = nominated }) d.accounts }
edited_row (SetKey person key) d = record d { accounts = exchange_key person key d.accounts }
edited_row (PutClient client) d = record d { clients = put_by (by_pair client_key) client d.clients }
edited_row (TakeClient client) d = record d { clients = filter (λ (c : Client). not (c.org == client.org && c.client == client.client)) d.clients }
edited_row (PutCommunity community) d = record d { communities = put_by (by_number community_number) community d.communities }
edited_row (PutMembership membership) d = record d { memberships = put_by (by_pair membership_key) membership d.memberships }
edited_row (TakeMembership membership) d = record d { memberships = filter (λ (m : Membership). not (m.community == membership.community && m.org == membership.org)) d.memberships }
edited_row (PutConnection link) d = record d { connections = put_by (by_pair connection_key) link d.connections }
edited_row (TakeConnection link) d = record d { connections = filter (λ (l : Connection). not (l.low == link.low && l.high == link.high)) d.connections }
edited_row (PutGroup group) d = record d { groups = put_by (by_number group_number) group d.groups }
edited_row (SetGroupActive group active) d = record d { groups = exchange_group group (λ (g : Group). record g { active = active }) d.groups }
edited_row (PutGroupMember member) d = record d { group_members = put_group_member member d.group_members }
edited_row (TakeGroupMember group org) d = record d { group_members = filter (λ (m : GroupMember). not (m.group == group && m.org == org)) d.group_members }
edited_row (PutArrangement arrangement) d = record d { arrangements = put_by (by_pair arrangement_key) arrangement d.arrangements }
edited_row (TakeArrangement source org) d = record d { arrangements = filter (λ (a : Arrangement). not (a.source == source && a.org == org)) d.arrangements }

-- the directory after several edits of rows, one after another
abbrev pub edited_rows : List RowEdit → Directory → Directory
edited_rows [] d = d
edited_rows (edit ∷ edits) d = edited_rows edits (edited_row edit d)

-- the owner of a group, as a member that may extend it
abbrev pub founder : Group → GroupMember
founder group = record { group = group.number; org = group.owner; extend = true }

-- an edit as the edits of its rows
abbrev pub rows_of : Edit → List RowEdit
rows_of (Row edit) = edit ∷ []
rows_of (Found group) = PutGroup group ∷ PutGroupMember (founder group) ∷ []

-- the directory after an edit: a founded group is put in, and then its owner as a member
abbrev pub edited : Edit → Directory → Directory
edited (Row edit) d = edited_row edit d
edited (Found group) d = edited_row (PutGroupMember (founder group)) (edited_row (PutGroup group) d)

-- ---- commands

-- the greatest of some numbers, or 0
abbrev pub greatest : List ℕ → ℕ
greatest [] = 0
greatest (n ∷ ns) = max n (greatest ns)

-- the number of the row that a command puts in: one more than the greatest, or 1
abbrev pub next_in : Directory → CircleCommand → ℕ
next_in d (AddOrg name) = greatest (map org_number d.orgs) + 1
next_in d (AddPerson org name role key) = greatest (map account_number d.accounts) + 1
next_in d (AddCommunity name) = greatest (map community_number d.communities) + 1
next_in d (NewGroup name releasability) = greatest (map group_number d.groups) + 1
next_in d _ = 0

-- the edit of the actor's command, whose new row gets this number
abbrev pub edit_of : ℕ → Person → CircleCommand → Edit
edit_of n a (AddOrg name) = Row (PutOrg (record { number = n; name = name }))
edit_of n a (AddPerson org name role key) = Row (PutAccount (record { person = record { number = n; org = org; name = name; role = role; active = true; nominated = false }; key = key }))
edit_of n a (SuspendPerson person) = Row (Suspend person)
edit_of n a (AddClient org client) = Row (PutClient (record { org = org; client = client }))
edit_of n a (RemoveClient org client) = Row (TakeClient (record { org = org; client = client }))
edit_of n a (AddCommunity name) = Row (PutCommunity (record { number = n; name = name }))
edit_of n a (Join community org) = Row (PutMembership (record { community = community; org = org }))
edit_of n a (Leave community org) = Row (TakeMembership (record { community = community; org = org }))
edit_of n a (Link community other) = Row (PutConnection (record { low = min community other; high = max community other }))
edit_of n a (Unlink community other) = Row (TakeConnection (record { low = min community other; high = max community other }))
edit_of n a (NewGroup name releasability) = Found (record { number = n; owner = a.org; name = name; releasability = releasability; active = true })
edit_of n a (GroupAdd group org extend) = Row (PutGroupMember (record { group = group; org = org; extend = extend }))
edit_of n a (GroupRemove group org) = Row (TakeGroupMember group org)
edit_of n a (GroupActive group active) = Row (SetGroupActive group active)
edit_of n a (Arrange org handling) = Row (PutArrangement (record { source = a.org; org = org; handling = handling }))
edit_of n a (CancelArrange org) = Row (TakeArrangement a.org org)
edit_of n a (Nominate person) = Row (SetNominated person true)
edit_of n a (Unnominate person) = Row (SetNominated person false)
edit_of n a (NewKey key) = Row (SetKey a.number key)

-- the directory after a command that nothing refuses
abbrev pub changed : Directory → Person → CircleCommand → Directory
changed d actor command = edited (edit_of (next_in d command) actor command) d

-- the second directory, or the first if there is a refusal
abbrev pub unless_refused : Option Refusal → Directory → Directory → Directory
unless_refused None before after = after
unless_refused (Some refusal) before after = before

-- the directory after a command: as it was if the command is refused
abbrev pub state_after : Directory → Person → CircleCommand → Directory
state_after d actor command = unless_refused (refusal_of d actor command) d (changed d actor command)
