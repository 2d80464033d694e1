-- Each edit leaves each set in the order of its key.
use Rattle.std.proofs.Common.{◌≡◌, ℕ, ◌==◌, Bool, true, false, List, [], ◌∷◌, filter, map, if◌then◌else◌, refl, sym, ap, ◌∙◌, subst, arith}
use Rattle.{std.{proofs.lemmas.Bool.Decides.nat_tests, specs.Ordering.is_lt}, circle.proofs.{Keeping.{each_put, each_weaker, pairs_left}, Kept.same_when}}
use Rattle.circle.specs.{Aftermath.edited_row, Directory.{Directory, org_number, account_number, community_number, group_number, client_key, membership_key}}
use Rattle.circle.specs.{Directory.{connection_key, group_member_key, arrangement_key}, Ordered.{put_by, pair_cmp, by_pair}, Sound.Each, Stretches.Ascend}
use Rattle.circle.specs.{Stretches.numbered, declared.command.RowEdit.{RowEdit, TheVariants.{PutOrg, PutAccount, Suspend, PutClient, TakeClient, PutCommunity}}}
use Rattle.circle.specs.declared.command.RowEdit.TheVariants.{PutMembership, TakeMembership, PutConnection, TakeConnection, PutGroup, PutGroupMember}
use Rattle.circle.specs.declared.command.RowEdit.TheVariants.{TakeGroupMember, SetGroupActive, PutArrangement, TakeArrangement, SetNominated, SetKey}
use Rattle.{circle.specs.declared.directory.{Account.Account, Group.Group}, circle_rows.specs.Rows.IsAscending}

-- if x is below y and z isn't, z isn't below x
above_new : (x y z : ℕ × ℕ) → is_lt (pair_cmp x y) ≡ true → is_lt (pair_cmp z y) ≡ false → is_lt (pair_cmp z x) ≡ false
above_new x y z here there = grind (arith, nat_tests)

above_both : (x y : ℕ × ℕ) → is_lt (pair_cmp x y) ≡ true → is_lt (pair_cmp y x) ≡ false
above_both x y here = grind (arith, nat_tests)

pub ascend_put : {X : Type 0} (key : X → ℕ × ℕ) (x : X) (xs : List X) → Ascend key xs → Ascend key (put_by (by_pair key) x xs)
ascend_put key x [] up = (tt, tt)
ascend_put key x (y ∷ ys) up = split (is_lt (by_pair key x y)) refl (ascend_put key x ys up.1)
  where
    split : (b : Bool) → is_lt (by_pair key x y) ≡ b → Ascend key (put_by (by_pair key) x ys) → Ascend key (put_by (by_pair key) x (y ∷ ys))
    split true is rest = subst (λ b. Ascend key (if b then x ∷ y ∷ ys else y ∷ put_by (by_pair key) x ys)) (sym is)
        ((above_both (key x) (key y) is, each_weaker (λ z. is_lt (by_pair key z y) ≡ false) (λ z. is_lt (by_pair key z x) ≡ false) ys (λ z h. above_new (key x) (key y) (key z) is h) up.0), up)
    split false is rest = subst (λ b. Ascend key (if b then x ∷ y ∷ ys else y ∷ put_by (by_pair key) x ys)) (sym is)
        (each_put (λ z. is_lt (by_pair key z y) ≡ false) (by_pair key) x ys is up.0, rest)

pub ascend_map : {X : Type 0} (key : X → ℕ × ℕ) (f : X → X) (xs : List X) → ((x : X) → key (f x) ≡ key x) → Ascend key xs → Ascend key (map f xs)
ascend_map key f [] same up = tt
ascend_map key f (x ∷ xs) same up = (behind xs up.0, ascend_map key f xs same up.1)
  where
    behind : (ys : List _) → Each (λ y. is_lt (by_pair key y x) ≡ false) ys → Each (λ y. is_lt (by_pair key y (f x)) ≡ false) (map f ys)
    behind [] h = tt
    behind (y ∷ ys) h = ((ap (λ k. is_lt (pair_cmp k (key (f x)))) (same y) ∙ (ap (λ k. is_lt (pair_cmp (key y) k)) (same x) ∙ h.0)), behind ys h.1)

ascend_left : {X : Type 0} (key : X → ℕ × ℕ) (p : X → Bool) (xs : List X) → Ascend key xs → Ascend key (filter p xs)
ascend_left key p xs up = pairs_left (λ a b. is_lt (by_pair key b a) ≡ false) p xs up

pub order_after : (edit : RowEdit) (d : Directory) → IsAscending d → IsAscending (edited_row edit d)
order_after (PutOrg x) d h = record { orgs = ascend_put (numbered org_number) x d.orgs h.orgs; accounts = h.accounts; clients = h.clients; communities = h.communities; memberships = h.memberships; connections = h.connections; groups = h.groups; group_members = h.group_members; arrangements = h.arrangements }
order_after (PutAccount x) d h = record { orgs = h.orgs; accounts = ascend_put (numbered account_number) x d.accounts h.accounts; clients = h.clients; communities = h.communities; memberships = h.memberships; connections = h.connections; groups = h.groups; group_members = h.group_members; arrangements = h.arrangements }
order_after (Suspend n) d h = record { orgs = h.orgs; accounts = ascend_map (numbered account_number) (λ (a : Account). if a.person.number == n then record a { person = record (a.person) { active = false } } else a) d.accounts (λ a. same_when (numbered account_number) (a.person.number == n) (record a { person = record (a.person) { active = false } }) a refl) h.accounts; clients = h.clients; communities = h.communities; memberships = h.memberships; connections = h.connections; groups = h.groups; group_members = h.group_members; arrangements = h.arrangements }
order_after (PutClient x) d h = record { orgs = h.orgs; accounts = h.accounts; clients = ascend_put client_key x d.clients h.clients; communities = h.communities; memberships = h.memberships; connections = h.connections; groups = h.groups; group_members = h.group_members; arrangements = h.arrangements }
order_after (TakeClient x) d h = record { orgs = h.orgs; accounts = h.accounts; clients = ascend_left client_key _ d.clients h.clients; communities = h.communities; memberships = h.memberships; connections = h.connections; groups = h.groups; group_members = h.group_members; arrangements = h.arrangements }
order_after (PutCommunity x) d h = record { orgs = h.orgs; accounts = h.accounts; clients = h.clients; communities = ascend_put (numbered community_number) x d.communities h.communities; memberships = h.memberships; connections = h.connections; groups = h.groups; group_members = h.group_members; arrangements = h.arrangements }
order_after (PutMembership x) d h = record { orgs = h.orgs; accounts = h.accounts; clients = h.clients; communities = h.communities; memberships = ascend_put membership_key x d.memberships h.memberships; connections = h.connections; groups = h.groups; group_members = h.group_members; arrangements = h.arrangements }
order_after (TakeMembership x) d h = record { orgs = h.orgs; accounts = h.accounts; clients = h.clients; communities = h.communities; memberships = ascend_left membership_key _ d.memberships h.memberships; connections = h.connections; groups = h.groups; group_members = h.group_members; arrangements = h.arrangements }
order_after (PutConnection x) d h = record { orgs = h.orgs; accounts = h.accounts; clients = h.clients; communities = h.communities; memberships = h.memberships; connections = ascend_put connection_key x d.connections h.connections; groups = h.groups; group_members = h.group_members; arrangements = h.arrangements }
order_after (TakeConnection x) d h = record { orgs = h.orgs; accounts = h.accounts; clients = h.clients; communities = h.communities; memberships = h.memberships; connections = ascend_left connection_key _ d.connections h.connections; groups = h.groups; group_members = h.group_members; arrangements = h.arrangements }
order_after (PutGroup x) d h = record { orgs = h.orgs; accounts = h.accounts; clients = h.clients; communities = h.communities; memberships = h.memberships; connections = h.connections; groups = ascend_put (numbered group_number) x d.groups h.groups; group_members = h.group_members; arrangements = h.arrangements }
order_after (PutGroupMember x) d h = record { orgs = h.orgs; accounts = h.accounts; clients = h.clients; communities = h.communities; memberships = h.memberships; connections = h.connections; groups = h.groups; group_members = ascend_put group_member_key x d.group_members h.group_members; arrangements = h.arrangements }
order_after (TakeGroupMember x y) d h = record { orgs = h.orgs; accounts = h.accounts; clients = h.clients; communities = h.communities; memberships = h.memberships; connections = h.connections; groups = h.groups; group_members = ascend_left group_member_key _ d.group_members h.group_members; arrangements = h.arrangements }
order_after (SetGroupActive n b) d h = record { orgs = h.orgs; accounts = h.accounts; clients = h.clients; communities = h.communities; memberships = h.memberships; connections = h.connections; groups = ascend_map (numbered group_number) (λ (g : Group). if g.number == n then record g { active = b } else g) d.groups (λ g. same_when (numbered group_number) (g.number == n) (record g { active = b }) g refl) h.groups; group_members = h.group_members; arrangements = h.arrangements }
order_after (PutArrangement x) d h = record { orgs = h.orgs; accounts = h.accounts; clients = h.clients; communities = h.communities; memberships = h.memberships; connections = h.connections; groups = h.groups; group_members = h.group_members; arrangements = ascend_put arrangement_key x d.arrangements h.arrangements }
order_after (TakeArrangement x y) d h = record { orgs = h.orgs; accounts = h.accounts; clients = h.clients; communities = h.communities; memberships = h.memberships; connections = h.connections; groups = h.groups; group_members = h.group_members; arrangements = ascend_left arrangement_key _ d.arrangements h.arrangements }
order_after (SetNominated n b) d h = record { orgs = h.orgs; accounts = ascend_map (numbered account_number) (λ (a : Account). if a.person.number == n then record a { person = record (a.person) { nominated = b } } else a) d.accounts (λ a. same_when (numbered account_number) (a.person.number == n) (record a { person = record (a.person) { nominated = b } }) a refl) h.accounts; clients = h.clients; communities = h.communities; memberships = h.memberships; connections = h.connections; groups = h.groups; group_members = h.group_members; arrangements = h.arrangements }
order_after (SetKey n key) d h = record {
  orgs = h.orgs;
  accounts = ascend_map (numbered account_number) (λ (a : Account). if a.person.number == n then record a { key = key } else a) d.accounts
      (λ a. same_when (numbered account_number) (a.person.number == n) (record a { key = key }) a refl) h.accounts;
  clients = h.clients;
  communities = h.communities;
  memberships = h.memberships;
  connections = h.connections;
  groups = h.groups;
  group_members = h.group_members;
  arrangements = h.arrangements;
}
