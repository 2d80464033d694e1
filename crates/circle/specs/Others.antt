-- The rows that belong to one organisation and not to another.
use Rattle.std.specs.Prelude.{◌≡◌, ◌⊎◌, ℕ, ◌&&◌, ◌==◌, List, map, filter, IsTrue}
use Rattle.circle.specs.declared.directory.Account.{Account}
use Rattle.circle.specs.declared.directory.Group.{Group}
use Rattle.circle.specs.declared.directory.GroupMember.{GroupMember}
use Rattle.circle.specs.declared.directory.Arrangement.{Arrangement}
use Rattle.circle.specs.Directory.{Directory, account_number, has_group_of, has_extender}
use Rattle.circle.specs.Aftermath.{put_group_member}

-- the arrangements of which the organisation is the source
abbrev pub arrangements_of : ℕ → Directory → List Arrangement
arrangements_of source d = filter (λ (a : Arrangement). a.source == source) d.arrangements

-- The numbers of the organisation's nominated persons. Their rows may change: an administrator may suspend one.
abbrev pub nominated_of : ℕ → Directory → List ℕ
nominated_of org d = map account_number (filter (λ (a : Account). a.person.org == org && a.person.nominated) d.accounts)

-- the groups that the organisation owns
abbrev pub groups_owned : ℕ → Directory → List Group
groups_owned owner d = filter (λ (g : Group). g.owner == owner) d.groups

-- the members of a group
abbrev pub members_in : ℕ → Directory → List GroupMember
members_in group d = filter (λ (m : GroupMember). m.group == group) d.group_members

-- the organisation may extend the group, and the group has one member more
pub record ExtendsBy (own group : ℕ) (before after : Directory) (member : GroupMember) : Type 0 where
  pub flag : IsTrue (has_extender group own before)
  pub group_of : member.group ≡ group
  pub put_in : members_in group after ≡ put_group_member member (members_in group before)

-- The arrangements, nominations, groups and members of another organisation's groups stay, except that an extend flag
-- lets a member be put in.
pub record LeavesTheirs (other own : ℕ) (before after : Directory) : Type 0 where
  pub arrangements : arrangements_of other after ≡ arrangements_of other before
  pub nominations : nominated_of other after ≡ nominated_of other before
  pub groups : groups_owned other after ≡ groups_owned other before
  pub members : (group : ℕ) → IsTrue (has_group_of group other before) → (members_in group after ≡ members_in group before) ⊎ ((member : GroupMember) × ExtendsBy own group before after member)
