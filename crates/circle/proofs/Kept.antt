-- A command that nothing refuses leaves a sound directory.
use Rattle.std.proofs.Common.{◌≡◌, ◌≢◌, ℕ, ◌+◌, ◌≤◌, ◌<◌, ◌==◌, ◌&&◌, Bool, true, false, not, List, [], ◌∷◌, filter, length, max, min, IsTrue, Option, Some}
use Rattle.std.proofs.{Common.{None, if◌then◌else◌, refl, sym, ap, ◌∙◌, subst, arith}, lemmas.{Bool.Decides.nat_tests, Grind.common_steps}}
use Rattle.{std.specs.{List.list_any, Prelude.nat_le, Str.bytes_eq}, circle.proofs.{Judged.{next_number, passed}, Keeping.{each_put, each_left, each_weaker}}}
use Rattle.circle.proofs.Keeping.{each_map, pairs_left, pairs_put, numbered_put, rise_put, differ_put, any_put, none_of, none_any, found_then, names_within}
use Rattle.circle.{proofs.Keeping.{pair_apart, ends_of, low_high, differ_map, differ_set, text_apart, numbered_map, names_map}, specs.Aftermath.next_in}
use Rattle.circle.specs.{Aftermath.{changed, state_after, unless_refused, exchange_account, exchange_key, exchange_group}, Directory.{Directory, org_number}}
use Rattle.circle.specs.Directory.{account_number, community_number, group_number, client_key, membership_key, connection_key, group_member_key}
use Rattle.circle.specs.Directory.{arrangement_key, has_org, has_org_named, has_key, has_client, has_community, has_community_named, has_group_named}
use Rattle.circle.specs.{Directory.has_group_member, Ordered.{put_by, by_number, by_pair}, Refusals.{grounds, refusal_of}, Sound.{IsSound, Each, SoundAccounts}}
use Rattle.circle.specs.Sound.{SoundClients, SoundMemberships, SoundConnections, SoundGroups, SoundGroupMembers, SoundArrangements, IsOrg, IsCommunity, IsGroup}
use Rattle.circle.specs.declared.{TheConstants.{ORG_LIMIT, PERSON_LIMIT, COMMUNITY_LIMIT, GROUP_LIMIT}, command.CircleCommand.CircleCommand}
use Rattle.circle.specs.declared.command.CircleCommand.TheVariants.{AddOrg, AddPerson, SuspendPerson, AddClient, RemoveClient, AddCommunity, Join, Leave, Link}
use Rattle.circle.specs.declared.command.CircleCommand.TheVariants.{Unlink, NewGroup, GroupAdd, GroupRemove, GroupActive, Arrange, CancelArrange, Nominate}
use Rattle.circle.specs.declared.{command.CircleCommand.TheVariants.{Unnominate, NewKey}, directory.{Account.Account, Arrangement.Arrangement, Client.Client}}
use Rattle.circle.specs.declared.directory.{Community.Community, Connection.Connection, Group.Group, GroupMember.GroupMember, Membership.Membership, Org.Org}
use Rattle.circle.specs.declared.{directory.Person.Person, refusal.Refusal.Refusal}

both : (a b : Bool) → not (a && b) ≡ false → IsTrue a × IsTrue b
both true true h = (refl, refl)
both true false h = cc
both false b h = cc

pub yes : (a : Bool) → not a ≡ false → IsTrue a
yes true h = refl
yes false h = cc

first_of_pair : (g n : ℕ) (b : Bool) → (g == n && b) ≡ true → g ≡ n
first_of_pair g n b h = grind (arith, nat_tests)

pub room : (limit n : ℕ) → nat_le limit n ≡ false → n < limit
room limit n h = grind (arith, nat_tests)

-- ---- a row with a number is put in

org_kept : (n : ℕ) (orgs : List Org) (org : Org) → IsOrg orgs n → IsOrg (put_by (by_number org_number) org orgs) n
org_kept n orgs org h = any_put (λ (o : Org). o.number == n) (by_number org_number) org orgs h

add_org : (d : Directory) (org : Org) → IsSound d → org.number ≡ length d.orgs + 1 → has_org_named org.name d ≡ false → length d.orgs < ORG_LIMIT → IsSound (record d { orgs = put_by (by_number org_number) org d.orgs })
add_org d org h next new low = record {
  orgs = record { numbered = numbered_put org_number ORG_LIMIT org d.orgs next low h.orgs.numbered; names = differ_put (λ (o : Org). o.name) (by_number org_number) org d.orgs new h.orgs.names };
  accounts = record { numbered = h.accounts.numbered; keys = h.accounts.keys; ends = each_weaker _ _ d.accounts (λ a e. org_kept a.person.org d.orgs org e) h.accounts.ends };
  clients = record { rising = h.clients.rising; ends = each_weaker _ _ d.clients (λ c e. (org_kept c.org d.orgs org e.0, org_kept c.client d.orgs org e.1)) h.clients.ends };
  communities = h.communities;
  memberships = record { rising = h.memberships.rising; ends = each_weaker _ _ d.memberships (λ m e. (e.0, org_kept m.org d.orgs org e.1)) h.memberships.ends };
  connections = h.connections;
  groups = record { numbered = h.groups.numbered; names = h.groups.names; ends = each_weaker _ _ d.groups (λ g e. org_kept g.owner d.orgs org e) h.groups.ends };
  group_members = record { rising = h.group_members.rising; ends = each_weaker _ _ d.group_members (λ m e. (e.0, org_kept m.org d.orgs org e.1)) h.group_members.ends };
  arrangements = record { rising = h.arrangements.rising; ends = each_weaker _ _ d.arrangements (λ a e. (org_kept a.source d.orgs org e.0, org_kept a.org d.orgs org e.1)) h.arrangements.ends };
}

add_account : (d : Directory) (account : Account) → IsSound d → account.person.number ≡ length d.accounts + 1 → has_key account.key d ≡ false → length d.accounts < PERSON_LIMIT → IsOrg d.orgs account.person.org → SoundAccounts d.orgs (put_by (by_number account_number) account d.accounts)
add_account d account h next new low known = record {
  numbered = numbered_put account_number PERSON_LIMIT account d.accounts next low h.accounts.numbered;
  keys = differ_put (λ (a : Account). a.key) (by_number account_number) account d.accounts new h.accounts.keys;
  ends = each_put _ (by_number account_number) account d.accounts known h.accounts.ends;
}

client_put : (d : Directory) (client : Client) → IsSound d → has_client client.org client.client d ≡ false → IsOrg d.orgs client.org × IsOrg d.orgs client.client → SoundClients d.orgs (put_by (by_pair client_key) client d.clients)
client_put d client h new known = record {
  rising = rise_put client_key client d.clients new h.clients.rising;
  ends = each_put _ (by_pair client_key) client d.clients known h.clients.ends;
}

clients_left : (d : Directory) (p : Client → Bool) → IsSound d → SoundClients d.orgs (filter p d.clients)
clients_left d p h = record { rising = pairs_left _ p d.clients h.clients.rising; ends = each_left _ p d.clients h.clients.ends }

pub same_when : {X Y : Type 0} (show : X → Y) (b : Bool) (x y : X) → show x ≡ show y → show (if b then x else y) ≡ show y
same_when show true x y e = e
same_when show false x y e = refl

accounts_exchanged : (d : Directory) (n : ℕ) (f : Person → Person) → ((p : Person) → (f p).number ≡ p.number) → ((p : Person) → (f p).org ≡ p.org) → IsSound d → SoundAccounts d.orgs (exchange_account n f d.accounts)
accounts_exchanged d n f number org h = record {
  numbered = numbered_map account_number PERSON_LIMIT (λ (a : Account). if a.person.number == n then record a { person = f a.person } else a) d.accounts (λ a. same_when account_number (a.person.number == n) (record a { person = f a.person }) a (number a.person)) h.accounts.numbered;
  keys = differ_map (λ (a : Account). a.key) (λ (a : Account). if a.person.number == n then record a { person = f a.person } else a) d.accounts (λ a. same_when (λ (x : Account). x.key) (a.person.number == n) (record a { person = f a.person }) a refl) h.accounts.keys;
  ends = each_map (λ (a : Account). IsOrg d.orgs a.person.org) (λ (a : Account). if a.person.number == n then record a { person = f a.person } else a) d.accounts (λ a e. subst (λ o. IsOrg d.orgs o) (sym (same_when (λ (x : Account). x.person.org) (a.person.number == n) (record a { person = f a.person }) a (org a.person))) e) h.accounts.ends;
}

accounts_keyed : (d : Directory) (n : ℕ) (key : List ℕ) → has_key key d ≡ false → IsSound d → SoundAccounts d.orgs (exchange_key n key d.accounts)
accounts_keyed d n key new h = record {
  numbered = numbered_map account_number PERSON_LIMIT set d.accounts (λ a. stays account_number a refl) h.accounts.numbered;
  keys = differ_set account_number (λ (a : Account). a.key) set n key 0 d.accounts at_n elsewhere h.accounts.numbered.0 others h.accounts.keys;
  ends = each_map (λ (a : Account). IsOrg d.orgs a.person.org) set d.accounts
      (λ a e. subst (IsOrg d.orgs) (sym (stays (λ (x : Account). x.person.org) a refl)) e) h.accounts.ends;
}
  where
    set : Account → Account
    set a = if a.person.number == n then record a { key = key } else a

    stays : {Y : Type 0} (show : Account → Y) (a : Account) → show (record a { key = key }) ≡ show a → show (set a) ≡ show a
    stays show a e = same_when show (a.person.number == n) (record a { key = key }) a e

    at_n : (a : Account) → (a.person.number == n) ≡ true → Account.key (set a) ≡ key
    at_n a is = ap (λ b. Account.key (if b then record a { key = key } else a)) is

    elsewhere : (a : Account) → (a.person.number == n) ≡ false → Account.key (set a) ≡ a.key
    elsewhere a is = ap (λ b. Account.key (if b then record a { key = key } else a)) is

    others : Each (λ (a : Account). a.key ≢ key) d.accounts
    others = each_weaker (λ (a : Account). bytes_eq a.key key ≡ false) (λ (a : Account). a.key ≢ key) d.accounts
        (λ a. text_apart a.key key) (none_of _ d.accounts new)

-- the other sets stay
with_accounts : (d : Directory) (accounts : List Account) → IsSound d → SoundAccounts d.orgs accounts → IsSound (record d { accounts = accounts })
with_accounts d accounts h new = record { orgs = h.orgs; accounts = new; clients = h.clients; communities = h.communities; memberships = h.memberships; connections = h.connections; groups = h.groups; group_members = h.group_members; arrangements = h.arrangements }

with_clients : (d : Directory) (clients : List Client) → IsSound d → SoundClients d.orgs clients → IsSound (record d { clients = clients })
with_clients d clients h new = record { orgs = h.orgs; accounts = h.accounts; clients = new; communities = h.communities; memberships = h.memberships; connections = h.connections; groups = h.groups; group_members = h.group_members; arrangements = h.arrangements }

community_kept : (n : ℕ) (communities : List Community) (community : Community) → IsCommunity communities n → IsCommunity (put_by (by_number community_number) community communities) n
community_kept n communities community h = any_put (λ (c : Community). c.number == n) (by_number community_number) community communities h

add_community : (d : Directory) (community : Community) → IsSound d → community.number ≡ length d.communities + 1 → has_community_named community.name d ≡ false → length d.communities < COMMUNITY_LIMIT → IsSound (record d { communities = put_by (by_number community_number) community d.communities })
add_community d community h next new low = record {
  orgs = h.orgs;
  accounts = h.accounts;
  clients = h.clients;
  communities = record { numbered = numbered_put community_number COMMUNITY_LIMIT community d.communities next low h.communities.numbered; names = differ_put (λ (c : Community). c.name) (by_number community_number) community d.communities new h.communities.names };
  memberships = record { rising = h.memberships.rising; ends = each_weaker _ _ d.memberships (λ m e. (community_kept m.community d.communities community e.0, e.1)) h.memberships.ends };
  connections = record { rising = h.connections.rising; ends = each_weaker _ _ d.connections (λ l e. (e.0, community_kept l.low d.communities community e.1, community_kept l.high d.communities community e.2)) h.connections.ends };
  groups = h.groups;
  group_members = h.group_members;
  arrangements = h.arrangements;
}

with_memberships : (d : Directory) (rows : List Membership) → IsSound d → SoundMemberships d.orgs d.communities rows → IsSound (record d { memberships = rows })
with_memberships d rows h new = record { orgs = h.orgs; accounts = h.accounts; clients = h.clients; communities = h.communities; memberships = new; connections = h.connections; groups = h.groups; group_members = h.group_members; arrangements = h.arrangements }

with_connections : (d : Directory) (rows : List Connection) → IsSound d → SoundConnections d.communities rows → IsSound (record d { connections = rows })
with_connections d rows h new = record { orgs = h.orgs; accounts = h.accounts; clients = h.clients; communities = h.communities; memberships = h.memberships; connections = new; groups = h.groups; group_members = h.group_members; arrangements = h.arrangements }

with_groups : (d : Directory) (rows : List Group) (members : List GroupMember) → IsSound d → SoundGroups d.orgs rows → SoundGroupMembers d.orgs rows members → IsSound (record d { groups = rows; group_members = members })
with_groups d rows members h new in_them = record { orgs = h.orgs; accounts = h.accounts; clients = h.clients; communities = h.communities; memberships = h.memberships; connections = h.connections; groups = new; group_members = in_them; arrangements = h.arrangements }

with_arrangements : (d : Directory) (rows : List Arrangement) → IsSound d → SoundArrangements d.orgs rows → IsSound (record d { arrangements = rows })
with_arrangements d rows h new = record { orgs = h.orgs; accounts = h.accounts; clients = h.clients; communities = h.communities; memberships = h.memberships; connections = h.connections; groups = h.groups; group_members = h.group_members; arrangements = new }

member_put : (orgs : List Org) (groups : List Group) (rows : List GroupMember) (member : GroupMember) → SoundGroupMembers orgs groups rows → list_any (λ (m : GroupMember). m.group == member.group && m.org == member.org) rows ≡ false → IsGroup groups member.group × IsOrg orgs member.org → SoundGroupMembers orgs groups (put_by (by_pair group_member_key) member rows)
member_put orgs groups rows member h new known = record { rising = rise_put group_member_key member rows new h.rising; ends = each_put _ (by_pair group_member_key) member rows known h.ends }

-- a new group has no member yet
no_member : (d : Directory) (org : ℕ) → IsSound d → list_any (λ (m : GroupMember). m.group == next_in d (NewGroup [] []) && m.org == org) d.group_members ≡ false
no_member d org h = none_any _ d.group_members (each_weaker _ _ d.group_members (λ m e.
    let within : m.group ≤ 0 + length d.groups = names_within group_number 0 m.group d.groups h.groups.numbered.0 e.0 in
    let next : next_in d (NewGroup [] []) ≡ length d.groups + 1 = next_number group_number GROUP_LIMIT d.groups h.groups.numbered in
    not_at m.group (next_in d (NewGroup [] [])) (m.org == org) (omega arith)) h.group_members.ends)
  where
    not_at : (g n : ℕ) (b : Bool) → g < n → (g == n && b) ≡ false
    not_at g n b low = grind (arith, nat_tests)

new_group : (d : Directory) (group : Group) → IsSound d → group.number ≡ next_in d (NewGroup [] []) → has_group_named group.owner group.name d ≡ false → length d.groups < GROUP_LIMIT → IsOrg d.orgs group.owner
    → IsSound (record d { groups = put_by (by_number group_number) group d.groups; group_members = put_by (by_pair group_member_key) (record { group = group.number; org = group.owner; extend = true }) d.group_members })
new_group d group h is new low known =
    let counted : next_in d (NewGroup [] []) ≡ length d.groups + 1 = next_number group_number GROUP_LIMIT d.groups h.groups.numbered in
    with_groups d _ _ h
    (record {
      numbered = numbered_put group_number GROUP_LIMIT group d.groups (is ∙ counted) low h.groups.numbered;
      names = pairs_put _ (by_number group_number) group d.groups (each_weaker _ _ d.groups (λ g e. ((λ same. pair_apart group.owner g.owner group.name g.name e (ap (λ (p : ℕ × List ℕ). p.0) same) (ap (λ (p : ℕ × List ℕ). p.1) same)), (λ same. pair_apart group.owner g.owner group.name g.name e (ap (λ (p : ℕ × List ℕ). p.0) (sym same)) (ap (λ (p : ℕ × List ℕ). p.1) (sym same))))) (none_of _ d.groups new)) h.groups.names;
      ends = each_put _ (by_number group_number) group d.groups known h.groups.ends;
    })
    (member_put d.orgs _ d.group_members (record { group = group.number; org = group.owner; extend = true })
    (record { rising = h.group_members.rising; ends = each_weaker _ _ d.group_members (λ m e. (any_put (λ (g : Group). g.number == m.group) (by_number group_number) group d.groups e.0, e.1)) h.group_members.ends })
    (subst (λ n. list_any (λ (m : GroupMember). m.group == n && m.org == group.owner) d.group_members ≡ false) (sym is) (no_member d group.owner h))
    (found_new group d.groups, known))
  where
    found_new : (x : Group) (xs : List Group) → IsGroup (put_by (by_number group_number) x xs) x.number
    found_new x [] = grind (arith, nat_tests)
    found_new x (y ∷ ys) = grind (arith, nat_tests, common_steps, found_new x ys)

groups_exchanged : (d : Directory) (n : ℕ) (active : Bool) → IsSound d → IsSound (record d { groups = exchange_group n (λ (g : Group). record g { active = active }) d.groups })
groups_exchanged d n active h = with_groups d _ d.group_members h
    (record {
      numbered = numbered_map group_number GROUP_LIMIT (λ (g : Group). if g.number == n then record g { active = active } else g) d.groups number h.groups.numbered;
      names = differ_map {K = ℕ × List ℕ} (λ (g : Group). (g.owner, g.name)) (λ (g : Group). if g.number == n then record g { active = active } else g) d.groups (λ g. same_when (λ (x : Group). let pair : ℕ × List ℕ = (x.owner, x.name) in pair) (g.number == n) (record g { active = active }) g refl) h.groups.names;
      ends = each_map (λ (g : Group). IsOrg d.orgs g.owner) (λ (g : Group). if g.number == n then record g { active = active } else g) d.groups (λ g e. subst (λ o. IsOrg d.orgs o) (sym (same_when (λ (x : Group). x.owner) (g.number == n) (record g { active = active }) g refl)) e) h.groups.ends;
    })
    (record { rising = h.group_members.rising; ends = each_weaker _ _ d.group_members (λ m e. (names_map group_number (λ (g : Group). if g.number == n then record g { active = active } else g) d.groups m.group number e.0, e.1)) h.group_members.ends })
  where
    number : (g : Group) → group_number (if g.number == n then record g { active = active } else g) ≡ group_number g
    number g = same_when group_number (g.number == n) (record g { active = active }) g refl

pub kept : (d : Directory) (a : Person) (c : CircleCommand) → IsSound d → IsOrg d.orgs a.org → refusal_of d a c ≡ None → IsSound (changed d a c)
kept d a (AddOrg name) h known fine =
    let p = passed (grounds d a (AddOrg name)) fine in
    add_org d (record { number = next_in d (AddOrg name); name = name }) h (next_number org_number ORG_LIMIT d.orgs h.orgs.numbered) p.1.1.0 (room ORG_LIMIT (length d.orgs) p.1.1.1.0)
kept d a (AddPerson org name role key) h known fine =
    let p = passed (grounds d a (AddPerson org name role key)) fine in
    with_accounts d _ h (add_account d (record { person = record { number = next_in d (AddPerson org name role key); org = org; name = name; role = role; active = true; nominated = false }; key = key }) h (next_number account_number PERSON_LIMIT d.accounts h.accounts.numbered) p.1.1.1.0 (room PERSON_LIMIT (length d.accounts) p.1.1.1.1.0) (yes (has_org org d) p.1.1.0))
kept d a (SuspendPerson person) h known fine = with_accounts d _ h (accounts_exchanged d person (λ (p : Person). record p { active = false }) (λ p. refl) (λ p. refl) h)
kept d a (Nominate person) h known fine = with_accounts d _ h (accounts_exchanged d person (λ (p : Person). record p { nominated = true }) (λ p. refl) (λ p. refl) h)
kept d a (Unnominate person) h known fine = with_accounts d _ h (accounts_exchanged d person (λ (p : Person). record p { nominated = false }) (λ p. refl) (λ p. refl) h)
kept d a (AddClient org client) h known fine =
    let p = passed (grounds d a (AddClient org client)) fine in
    with_clients d _ h (client_put d (record { org = org; client = client }) h p.1.1.1.0 (both (has_org org d) (has_org client d) p.1.1.0))
kept d a (RemoveClient org client) h known fine = with_clients d _ h (clients_left d _ h)
kept d a (AddCommunity name) h known fine =
    let p = passed (grounds d a (AddCommunity name)) fine in
    add_community d (record { number = next_in d (AddCommunity name); name = name }) h (next_number community_number COMMUNITY_LIMIT d.communities h.communities.numbered) p.1.1.0 (room COMMUNITY_LIMIT (length d.communities) p.1.1.1.0)
kept d a (Join community org) h known fine =
    let p = passed (grounds d a (Join community org)) fine in
    let row : Membership = record { community = community; org = org } in
    with_memberships d _ h (record { rising = rise_put membership_key row d.memberships p.1.1.0 h.memberships.rising; ends = each_put _ (by_pair membership_key) row d.memberships (both (has_community community d) (has_org org d) p.1.0) h.memberships.ends })
kept d a (Leave community org) h known fine = with_memberships d _ h (record { rising = pairs_left _ _ d.memberships h.memberships.rising; ends = each_left _ _ d.memberships h.memberships.ends })
kept d a (Link community other) h known fine =
    let p = passed (grounds d a (Link community other)) fine in
    let row : Connection = record { low = min community other; high = max community other } in
    let there = both (has_community community d) (has_community other d) p.1.1.0 in
    let ends = ends_of (IsCommunity d.communities) community other there.0 there.1 in
    with_connections d _ h (record { rising = rise_put connection_key row d.connections p.1.1.1.0 h.connections.rising; ends = each_put _ (by_pair connection_key) row d.connections (low_high community other p.1.0, ends.0, ends.1) h.connections.ends })
kept d a (Unlink community other) h known fine = with_connections d _ h (record { rising = pairs_left _ _ d.connections h.connections.rising; ends = each_left _ _ d.connections h.connections.ends })
kept d a (NewGroup name releasability) h known fine =
    let p = passed (grounds d a (NewGroup name releasability)) fine in
    new_group d (record { number = next_in d (NewGroup name releasability); owner = a.org; name = name; releasability = releasability; active = true }) h refl p.1.1.1.0 (room GROUP_LIMIT (length d.groups) p.1.1.1.1.0) known
kept d a (GroupAdd group org extend) h known fine =
    let p = passed (grounds d a (GroupAdd group org extend)) fine in
    let there = both (has_group_member group a.org d) (has_org org d) p.1.0 in
    let is_group : IsGroup d.groups group = found_then _ _ (IsGroup d.groups group) d.group_members (λ m is e. subst (IsGroup d.groups) (first_of_pair m.group group (m.org == a.org) is) e.0) there.0 h.group_members.ends in
    with_groups d d.groups _ h h.groups (member_put d.orgs d.groups d.group_members (record { group = group; org = org; extend = extend }) h.group_members p.1.1.1.0 (is_group, there.1))
kept d a (GroupRemove group org) h known fine = with_groups d d.groups _ h h.groups (record { rising = pairs_left _ _ d.group_members h.group_members.rising; ends = each_left _ _ d.group_members h.group_members.ends })
kept d a (GroupActive group active) h known fine = groups_exchanged d group active h
kept d a (Arrange org handling) h known fine =
    let p = passed (grounds d a (Arrange org handling)) fine in
    let row : Arrangement = record { source = a.org; org = org; handling = handling } in
    with_arrangements d _ h (record { rising = rise_put arrangement_key row d.arrangements p.1.1.1.0 h.arrangements.rising; ends = each_put _ (by_pair arrangement_key) row d.arrangements (known, yes (has_org org d) p.1.1.0) h.arrangements.ends })
kept d a (CancelArrange org) h known fine = with_arrangements d _ h (record { rising = pairs_left _ _ d.arrangements h.arrangements.rising; ends = each_left _ _ d.arrangements h.arrangements.ends })
kept d a (NewKey key) h known fine = let p = passed (grounds d a (NewKey key)) fine in with_accounts d _ h (accounts_keyed d a.number key p.0 h)

pub kept_after : (d : Directory) (a : Person) (c : CircleCommand) → IsSound d → IsOrg d.orgs a.org → IsSound (state_after d a c)
kept_after d a c h known = split (refusal_of d a c) refl
  where
    split : (r : Option Refusal) → refusal_of d a c ≡ r → IsSound (unless_refused r d (changed d a c))
    split None is = kept d a c h known is
    split (Some r) is = h
