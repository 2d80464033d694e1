-- No organisation, person, community or group goes away.
use Rattle.{std.{proofs.Common.{ℕ, ◌==◌, false, if◌then◌else◌, map, IsTrue, Option, Some, None, refl}, specs.List.list_any}, circle.proofs.Keeping.any_put}
use Rattle.circle.{proofs.{Keeping.names_map, Kept.same_when}, specs.Aftermath.{edited_row, edited, edit_of, next_in, changed, unless_refused, founder}}
use Rattle.circle.specs.{Directory.{Directory, org_number, account_number, community_number, group_number, has_person}, Growth.Grows, Laws.NothingVanishes}
use Rattle.circle.specs.{Ordered.by_number, Refusals.refusal_of, declared.command.{Edit.{Edit, TheVariants.{Row, Found}}, RowEdit.RowEdit}}
use Rattle.circle.specs.declared.command.RowEdit.TheVariants.{PutOrg, PutAccount, Suspend, PutClient, TakeClient, PutCommunity, PutMembership, TakeMembership}
use Rattle.circle.specs.declared.command.RowEdit.TheVariants.{PutConnection, TakeConnection, PutGroup, PutGroupMember, TakeGroupMember, SetGroupActive}
use Rattle.circle.specs.declared.{command.RowEdit.TheVariants.{PutArrangement, TakeArrangement, SetNominated, SetKey}, directory.Account.Account}
use Rattle.circle.specs.declared.{directory.{Community.Community, Group.Group, Org.Org}, refusal.Refusal.Refusal}

grows_row : (edit : RowEdit) (d : Directory) → Grows d (edited_row edit d)
grows_row (PutOrg x) d = record { orgs = λ n h. any_put (λ (o : Org). o.number == n) (by_number org_number) x d.orgs h; persons = λ n h. h; communities = λ n h. h; groups = λ n h. h }
grows_row (PutAccount x) d = record { orgs = λ n h. h; persons = λ n h. any_put (λ (a : Account). a.person.number == n) (by_number account_number) x d.accounts h; communities = λ n h. h; groups = λ n h. h }
grows_row (Suspend n) d = record { orgs = λ n h. h; persons = λ m h. names_map account_number (λ (a : Account). if a.person.number == n then record a { person = record (a.person) { active = false } } else a) d.accounts m (λ a. same_when account_number (a.person.number == n) (record a { person = record (a.person) { active = false } }) a refl) h; communities = λ n h. h; groups = λ n h. h }
grows_row (PutClient x) d = record { orgs = λ n h. h; persons = λ n h. h; communities = λ n h. h; groups = λ n h. h }
grows_row (TakeClient x) d = record { orgs = λ n h. h; persons = λ n h. h; communities = λ n h. h; groups = λ n h. h }
grows_row (PutCommunity x) d = record { orgs = λ n h. h; persons = λ n h. h; communities = λ n h. any_put (λ (c : Community). c.number == n) (by_number community_number) x d.communities h; groups = λ n h. h }
grows_row (PutMembership x) d = record { orgs = λ n h. h; persons = λ n h. h; communities = λ n h. h; groups = λ n h. h }
grows_row (TakeMembership x) d = record { orgs = λ n h. h; persons = λ n h. h; communities = λ n h. h; groups = λ n h. h }
grows_row (PutConnection x) d = record { orgs = λ n h. h; persons = λ n h. h; communities = λ n h. h; groups = λ n h. h }
grows_row (TakeConnection x) d = record { orgs = λ n h. h; persons = λ n h. h; communities = λ n h. h; groups = λ n h. h }
grows_row (PutGroup x) d = record { orgs = λ n h. h; persons = λ n h. h; communities = λ n h. h; groups = λ n h. any_put (λ (g : Group). g.number == n) (by_number group_number) x d.groups h }
grows_row (PutGroupMember x) d = record { orgs = λ n h. h; persons = λ n h. h; communities = λ n h. h; groups = λ n h. h }
grows_row (TakeGroupMember x y) d = record { orgs = λ n h. h; persons = λ n h. h; communities = λ n h. h; groups = λ n h. h }
grows_row (SetGroupActive n b) d = record { orgs = λ n h. h; persons = λ n h. h; communities = λ n h. h; groups = λ m h. names_map group_number (λ (g : Group). if g.number == n then record g { active = b } else g) d.groups m (λ g. same_when group_number (g.number == n) (record g { active = b }) g refl) h }
grows_row (PutArrangement x) d = record { orgs = λ n h. h; persons = λ n h. h; communities = λ n h. h; groups = λ n h. h }
grows_row (TakeArrangement x y) d = record { orgs = λ n h. h; persons = λ n h. h; communities = λ n h. h; groups = λ n h. h }
grows_row (SetNominated n b) d = record { orgs = λ n h. h; persons = λ m h. names_map account_number (λ (a : Account). if a.person.number == n then record a { person = record (a.person) { nominated = b } } else a) d.accounts m (λ a. same_when account_number (a.person.number == n) (record a { person = record (a.person) { nominated = b } }) a refl) h; communities = λ n h. h; groups = λ n h. h }
grows_row (SetKey n key) d = record { orgs = λ n h. h; persons = named; communities = λ n h. h; groups = λ n h. h }
  where
    set : Account → Account
    set a = if a.person.number == n then record a { key = key } else a

    named : (m : ℕ) → IsTrue (has_person m d) → IsTrue (list_any (λ (a : Account). a.person.number == m) (map set d.accounts))
    named m h = names_map account_number set d.accounts m (λ a. same_when account_number (a.person.number == n) (record a { key = key }) a refl) h

joined : (a b c : Directory) → Grows a b → Grows b c → Grows a c
joined a b c one two = record { orgs = λ n h. two.orgs n (one.orgs n h); persons = λ n h. two.persons n (one.persons n h); communities = λ n h. two.communities n (one.communities n h); groups = λ n h. two.groups n (one.groups n h) }

pub grows : (edit : Edit) (d : Directory) → Grows d (edited edit d)
grows (Row edit) d = grows_row edit d
grows (Found group) d = joined d (edited_row (PutGroup group) d) (edited (Found group) d) (grows_row (PutGroup group) d) (grows_row (PutGroupMember (founder group)) (edited_row (PutGroup group) d))

pub nothing_vanishes : NothingVanishes
nothing_vanishes d a c = split (refusal_of d a c)
  where
    split : (r : Option Refusal) → Grows d (unless_refused r d (changed d a c))
    split None = grows (edit_of (next_in d c) a c) d
    split (Some r) = record { orgs = λ n h. h; persons = λ n h. h; communities = λ n h. h; groups = λ n h. h }
