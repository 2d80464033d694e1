-- Each set of the state as a table holds it.
use Rattle.std.proofs.Common.{◌≡◌, ℕ, suc, pos, List, [], ◌∷◌, ◌++◌, map, filter, take, drop, slice_get, true, not, Some, unwrap_or, Result, OnOk, IsTrue, refl}
use Rattle.std.proofs.{Common.{sym, ap, subst, subst₂, ◌∙◌, codes}, lemmas.{Cmp.{nat_cmp_total, on_total}, List.Sorted.IsPermutation-map}}
use Rattle.std.specs.{Cmp.IsTotalOrder, List.{AllByRecursion, list_all, Sorted.IsPermutation}, Str.bytes_eq, declared.cmp.Ordering.{Ordering, TheVariants.Less}}
use Rattle.{sqlite_value.specs.{Order.{Row, column}, declared.value.Value.TheVariants.{Null, Int, Text}}, sqlite_trees.proofs.ListLemmas.{map-map, filter-map}}
use Rattle.{sqlite_trees.{proofs.ListLemmas.IsPermutation-filter, specs.Tree.IsAscending}, sqlite_rules.specs.{Cast.cast_row, Edit.with_rowid}}
use Rattle.{sqlite_rules.specs.declared.error.Rowids.TheVariants.Chosen, sqlite.specs.{Held.{Held, state}, State.HasCleanDisk, declared.error.Error.Error}}
use Rattle.circle.{proofs.Keeping.pair_total, specs.Directory.{Directory, org_number, account_number, community_number, group_number, client_key}}
use Rattle.circle.specs.{Directory.{membership_key, connection_key, group_member_key, arrangement_key}, Ordered.{by_number, by_pair}}
use Rattle.circle.specs.declared.directory.{Account.Account, Arrangement.Arrangement, Client.Client, Community.Community, Connection.Connection, Group.Group}
use Rattle.{circle.specs.declared.directory.{GroupMember.GroupMember, Membership.Membership, Org.Org}, hub_state.specs.Orders.{gate_total, recipient_total}}
use Rattle.hub_state.specs.{Orders.permission_total, Sound.IsSound, State.{State, gate_cmp, recipient_cmp, permission_cmp, target_key, grantee_key}}
use Rattle.{hub_state.specs.declared.state.{Gate.Gate, Permission.Permission, Recipient.Recipient}, hub_store.proofs.Rows.Backs.{number_in, text_in, blob_in}}
use Rattle.hub_store.proofs.Rows.Backs.{is_set, flag_back, option_in, option_back, moment_in, moment_back, role_of, role_back, handling_of, handling_back}
use Rattle.hub_store.proofs.Rows.{Backs.{target_of, target_back, grantee_of, grantee_back, is_one, bit_back, path_in, path_back}, Compare.{cast_int, cast_null}}
use Rattle.hub_store.proofs.Rows.{Compare.{cast_option, cast_moment, cast_flag, past}, Found.filter_all, OneKind.{kind_alone, is_of}, PairSets.is_pair}
use Rattle.hub_store.proofs.Rows.{PairSets.{is_row, is_other_kind, pair_in, pair_out}, PartRows.Stands, Places.{table_at, org_place, person_place}}
use Rattle.hub_store.proofs.Rows.{Places.{community_place, grp_place, pair_place, gate_place, recipient_place, permission_place}, Rising.{rising, counted}}
use Rattle.hub_store.{proofs.Rows.{SetKinds.{Kind, parts, part_at, taken_from}, Texts.take_pair_is}, specs.Fit.{IsFit, FitOrg, FitAccount, FitCommunity}}
use Rattle.hub_store.specs.{Fit.{FitGroup, FitGate}, Keeps.{Goes, HasRun}, Means.Holds, Pairs.{Pair, pair_row, rows_of_pairs, take_pair}, Rows.role_number}
use Rattle.hub_store.specs.Rows.{org_row, account_row, community_row, group_row, gate_row, recipient_row, permission_row, client_pair, membership_pair}
use Rattle.hub_store.specs.{Rows.{connection_pair, group_member_pair, arrangement_pair, pair_sets}, inner.Makes.Makes}
use Rattle.sqlite_trees.specs.declared.store.Store as store
use Rattle.circle.specs.Sound as circle

-- ---- limits

-- the limits of a state, set by set
abbrev pub FitSets : State → Type 0
FitSets s =
    AllByRecursion FitOrg s.directory.orgs × AllByRecursion FitAccount s.directory.accounts
    × AllByRecursion FitCommunity s.directory.communities × AllByRecursion FitGroup s.directory.groups
    × AllByRecursion FitGate s.gates

pub fit_sets : (s : State) → IsFit s → FitSets s
fit_sets s fit = (fit.orgs, fit.accounts, fit.communities, fit.groups, fit.gates)

pub from_sets : (s : State) → FitSets s → IsFit s
from_sets s fit = record { orgs = fit.0; accounts = fit.1; communities = fit.2; groups = fit.3; gates = fit.4 }

-- ---- elements, read back from their rows

abbrev pub org_back : Row → Org
org_back r = record { number = number_in (column r 0); name = text_in (column r 2) }

abbrev pub account_back : Row → Account
account_back r = record {
  person = record {
    number = number_in (column r 0);
    org = number_in (column r 2);
    name = text_in (column r 3);
    role = role_of (number_in (column r 4));
    active = is_set (column r 6);
    nominated = is_set (column r 7);
  };
  key = blob_in (column r 5);
}

pub account_backed : (a : Account) → account_back (account_row a) ≡ a
account_backed a =
    let p = a.person in
    λ i. record a { person = record p { role = role_back p.role i; active = flag_back p.active i; nominated = flag_back p.nominated i } }

abbrev pub community_back : Row → Community
community_back r = record { number = number_in (column r 0); name = text_in (column r 2) }

abbrev pub group_back : Row → Group
group_back r = record {
  number = number_in (column r 0);
  owner = number_in (column r 2);
  name = text_in (column r 3);
  releasability = text_in (column r 4);
  active = is_set (column r 5);
}

abbrev pub gate_back : Row → Gate
gate_back r = record {
  incident = number_in (column r 0);
  gate = record { path = path_in (column r 1); level = number_in (column r 2); group = option_in (column r 3) };
}

pub gate_backed : (g : Gate) → gate_back (gate_row g) ≡ g
gate_backed g = λ i. record g { gate = record g.gate { path = path_back g.gate.path i; group = option_back g.gate.group i } }

abbrev pub recipient_back : Row → Recipient
recipient_back r =
    record { incident = number_in (column r 0); target = target_of (number_in (column r 1)) (number_in (column r 2)) }

abbrev pub permission_back : Row → Permission
permission_back r = record {
  incident = number_in (column r 0);
  permission = record {
    path = path_in (column r 1);
    grantee = grantee_of (number_in (column r 2)) (number_in (column r 3));
    until = moment_in (column r 4);
  };
}

pub permission_backed : (x : Permission) → permission_back (permission_row x) ≡ x
permission_backed x =
    let p = x.permission in
    λ i. record x { permission = record { path = path_back p.path i; grantee = grantee_back p.grantee i; until = moment_back p.until i } }

abbrev pub pair_back : Row → Pair
pair_back r = ((number_in (column r 1), number_in (column r 2)), option_in (column r 3))

pub pair_backed : (name : List ℕ) (p : Pair) → pair_back (pair_row name p) ≡ p
pair_backed name p = λ i. (p.0, option_back p.1 i)

-- ---- sets with a table of their own

abbrev pub whole : {X : Type 0} (place : ℕ) (seen : Row → Row) (stored row : X → Row)
    → ((x : X) (rows : List Row) → seen (with_rowid Chosen rows (stored x)) ≡ row x)
    → ((x : X) → cast_row (table_at place) (stored x) ≡ stored x)
    → (get : State → List X) (set : List X → State → State) → ((l : List X) (s : State) → get (set l s) ≡ l)
    → ((s : State) → Stands (take place (parts s)) (part_at place seen (map row (get s))) (drop (suc place) (parts s)) place)
    → ((s : State) → parts s ≡ take place (parts s) ++ part_at place seen (map row (get s)) ∷ drop (suc place) (parts s))
    → ((l : List X) (s : State) →
    parts (set l s) ≡ take place (parts s) ++ part_at place seen (map row (get (set l s))) ∷ drop (suc place) (parts s))
    → (cmp : X → X → Ordering) → IsTotalOrder cmp
    → ((s : State) → IsSound s → IsAscending (λ a b. cmp a b ≡ Less) (get s))
    → (back : Row → X) → ((x : X) → back (row x) ≡ x) → (Fits : X → Type 0)
    → ((l : List X) (s : State) → FitSets s → (AllByRecursion Fits (get s) → AllByRecursion Fits l) → FitSets (set l s)) → Kind X
whole place seen stored row shows casts get set got stands split now cmp total rises back backed Fits refit = record {
  place = place;
  seen = seen;
  stored = stored;
  row = row;
  shows = shows;
  casts = casts;
  get = get;
  set = set;
  rows = λ s. map row (get s);
  stands = stands;
  split = split;
  now = now;
  cmp = cmp;
  more = λ x s l same.
      subst (λ m. IsPermutation (row x ∷ map row (get s)) (map row m)) (sym (got l s)) (IsPermutation-map row _ _ same);
  total = total;
  rises = rises;
  back = back;
  backed = backed;
  alike = λ a b same. same;
  Fits = Fits;
  refit = λ l s fit step. from_sets (set l s) (refit l s (fit_sets s fit) step);
}

-- organisations
abbrev pub orgs : Kind Org
orgs = whole org_place (λ r. r) org_row org_row (λ x rows. refl)
    (λ o. rw (cast_int o.number, cast_null) refl)
    (λ s. s.directory.orgs) (λ l s. record s { directory = record s.directory { orgs = l } }) (λ l s. refl)
    (λ s. record { listed = refl; uncounted = refl; timeless = refl; alone = λ _ _ _. refl; apart = refl; same = λ _. refl })
    (λ s. refl) (λ l s. refl) (by_number org_number) (on_total org_number nat_cmp_total)
    (λ s sound. counted org_number 0 s.directory.orgs sound.directory.orgs.numbered.0)
    org_back (λ o. refl) FitOrg
    (λ l s fit step. (step fit.0, fit.1, fit.2, fit.3, fit.4))

-- persons with their keys
abbrev pub persons : Kind Account
persons = whole person_place (λ r. r) account_row account_row (λ x rows. refl)
    (λ a. rw (
      cast_int a.person.number,
      cast_int a.person.org,
      cast_int (role_number a.person.role),
      cast_flag a.person.active,
      cast_flag a.person.nominated,
      cast_null,
    ) refl)
    (λ s. s.directory.accounts) (λ l s. record s { directory = record s.directory { accounts = l } }) (λ l s. refl)
    (λ s. record { listed = refl; uncounted = refl; timeless = refl; alone = λ _ _ _. refl; apart = refl; same = λ _. refl })
    (λ s. refl) (λ l s. refl) (by_number account_number) (on_total account_number nat_cmp_total)
    (λ s sound. counted account_number 0 s.directory.accounts sound.directory.accounts.numbered.0)
    account_back account_backed FitAccount
    (λ l s fit step. (fit.0, step fit.1, fit.2, fit.3, fit.4))

-- communities
abbrev pub communities : Kind Community
communities = whole community_place (λ r. r) community_row community_row (λ x rows. refl)
    (λ c. rw (cast_int c.number, cast_null) refl)
    (λ s. s.directory.communities) (λ l s. record s { directory = record s.directory { communities = l } }) (λ l s. refl)
    (λ s. record { listed = refl; uncounted = refl; timeless = refl; alone = λ _ _ _. refl; apart = refl; same = λ _. refl })
    (λ s. refl) (λ l s. refl) (by_number community_number) (on_total community_number nat_cmp_total)
    (λ s sound. counted community_number 0 s.directory.communities sound.directory.communities.numbered.0)
    community_back (λ c. refl) FitCommunity
    (λ l s fit step. (fit.0, fit.1, step fit.2, fit.3, fit.4))

-- groups
abbrev pub groups : Kind Group
groups = whole grp_place (λ r. r) group_row group_row (λ x rows. refl)
    (λ g. rw (cast_int g.number, cast_int g.owner, cast_flag g.active, cast_null) refl)
    (λ s. s.directory.groups) (λ l s. record s { directory = record s.directory { groups = l } }) (λ l s. refl)
    (λ s. record { listed = refl; uncounted = refl; timeless = refl; alone = λ _ _ _. refl; apart = refl; same = λ _. refl })
    (λ s. refl) (λ l s. refl) (by_number group_number) (on_total group_number nat_cmp_total)
    (λ s sound. counted group_number 0 s.directory.groups sound.directory.groups.numbered.0)
    group_back (λ g i. record g { active = flag_back g.active i }) FitGroup
    (λ l s fit step. (fit.0, fit.1, fit.2, step fit.3, fit.4))

-- gates
abbrev pub gates : Kind Gate
gates = whole gate_place (drop 1) (λ x. Null ∷ gate_row x) gate_row (λ x rows. refl)
    (λ g. rw (cast_int g.incident, cast_int g.gate.level, cast_option g.gate.group, cast_null) refl)
    (λ s. s.gates) (λ l s. record s { gates = l }) (λ l s. refl)
    (λ s. record { listed = refl; uncounted = refl; timeless = refl; alone = λ _ _ _. refl; apart = refl; same = λ _. refl })
    (λ s. refl) (λ l s. refl) gate_cmp gate_total
    (λ s sound. rising _ s.gates sound.gates.rising)
    gate_back gate_backed FitGate
    (λ l s fit step. (fit.0, fit.1, fit.2, fit.3, step fit.4))

-- recipients
abbrev pub recipients : Kind Recipient
recipients = whole recipient_place (drop 1) (λ x. Null ∷ recipient_row x) recipient_row (λ x rows. refl)
    (λ r. rw (cast_int r.incident, cast_int (target_key r.target).0, cast_int (target_key r.target).1, cast_null) refl)
    (λ s. s.recipients) (λ l s. record s { recipients = l }) (λ l s. refl)
    (λ s. record { listed = refl; uncounted = refl; timeless = refl; alone = λ _ _ _. refl; apart = refl; same = λ _. refl })
    (λ s. refl) (λ l s. refl) recipient_cmp recipient_total
    (λ s sound. rising _ s.recipients sound.recipients.rising)
    recipient_back (λ r i. record r { target = target_back r.target i }) (λ r. Unit {0})
    (λ l s fit step. (fit.0, fit.1, fit.2, fit.3, fit.4))

-- permissions
abbrev pub permissions : Kind Permission
permissions = whole permission_place (drop 1) (λ x. Null ∷ permission_row x) permission_row (λ x rows. refl)
    (λ x. rw (
      cast_int x.incident,
      cast_int (grantee_key x.permission.grantee).0,
      cast_int (grantee_key x.permission.grantee).1,
      cast_moment x.permission.until,
      cast_null,
    ) refl)
    (λ s. s.permissions) (λ l s. record s { permissions = l }) (λ l s. refl)
    (λ s. record { listed = refl; uncounted = refl; timeless = refl; alone = λ _ _ _. refl; apart = refl; same = λ _. refl })
    (λ s. refl) (λ l s. refl) permission_cmp permission_total
    (λ s sound. rising _ s.permissions sound.permissions.rising)
    permission_back permission_backed (λ x. Unit {0})
    (λ l s fit step. (fit.0, fit.1, fit.2, fit.3, fit.4))

-- ---- sets in the table of pairs

-- One of them, at its place among the five. For a set that is written out, `refl` proves the laws.
pub record PairsOf (X : Type 0) : Type 1 where
  pub at : ℕ
  pub name : List ℕ
  pub pair : X → Pair
  pub key : X → ℕ × ℕ
  pub get : Directory → List X
  pub set : List X → Directory → Directory
  pub back : Pair → X
  pub backed : (x : X) → back (pair x) ≡ x
  pub rises : (d : Directory) → circle.IsSound d → IsAscending (λ a b. by_pair key a b ≡ Less) (get d)
  pub own : (d : Directory) → slice_get (pair_sets d) at ≡ Some (name, map pair (get d))
  pub others : (l : List X) (d : Directory)
      → pair_sets (set l d) ≡ take at (pair_sets d) ++ (name, map pair l) ∷ drop (suc at) (pair_sets d)
  pub itself : bytes_eq name name ≡ true
  pub apart : (d : Directory) → list_all (is_other_kind name) (take at (pair_sets d) ++ drop (suc at) (pair_sets d)) ≡ true
  pub now : (l : List X) (s : State) → parts (record s { directory = set l s.directory })
      ≡ take pair_place (parts s) ++ part_at pair_place (drop 1) (rows_of_pairs (pair_sets (set l s.directory))) ∷ drop (suc pair_place) (parts s)
  pub refit : (l : List X) (s : State) → FitSets s → FitSets (record s { directory = set l s.directory })

-- the rows of one of the sets among those of all
one_set : {X : Type 0} (P : PairsOf X) (d : Directory) → filter (is_of P.name (λ r. true)) (rows_of_pairs (pair_sets d))
    ≡ map (λ x. pair_row P.name (P.pair x)) (P.get d)
one_set P d =
    kind_alone P.name (λ r. true) P.at (pair_sets d) (map P.pair (P.get d)) (P.own d) P.itself (P.apart d)
    ∙ filter_all (map (pair_row P.name) (map P.pair (P.get d))) ∙ map-map (pair_row P.name) P.pair (P.get d)

pub pairs_alike : {X : Type 0} (P : PairsOf X) (d e : Directory) → IsPermutation (rows_of_pairs (pair_sets d)) (rows_of_pairs (pair_sets e))
    → IsPermutation (map (λ x. pair_row P.name (P.pair x)) (P.get d)) (map (λ x. pair_row P.name (P.pair x)) (P.get e))
pairs_alike P d e same =
    subst₂ IsPermutation (one_set P d) (one_set P e) (IsPermutation-filter (is_of P.name (λ r. true)) _ _ same)

abbrev pub in_pairs : {X : Type 0} → PairsOf X → Kind X
in_pairs P = record {
  place = pair_place;
  seen = drop 1;
  stored = λ x. Null ∷ pair_row P.name (P.pair x);
  row = λ x. pair_row P.name (P.pair x);
  shows = λ x rows. refl;
  casts = λ x. rw (cast_int (P.pair x).0.0, cast_int (P.pair x).0.1, cast_option (P.pair x).1, cast_null) refl;
  get = λ s. P.get s.directory;
  set = λ l s. record s { directory = P.set l s.directory };
  rows = λ s. rows_of_pairs (pair_sets s.directory);
  stands = λ s. record { listed = refl; uncounted = refl; timeless = refl; alone = λ _ _ _. refl; apart = refl; same = λ _. refl };
  split = λ s. refl;
  now = P.now;
  cmp = by_pair P.key;
  more = λ x s l same.
      pair_in P.at (pair_sets s.directory) (pair_sets (P.set l s.directory)) P.name (P.pair x) (map P.pair (P.get s.directory))
      (map P.pair l) (P.own s.directory) (P.others l s.directory) (IsPermutation-map P.pair _ _ same);
  total = on_total P.key pair_total;
  rises = λ s sound. P.rises s.directory sound.directory;
  back = λ r. P.back (pair_back r);
  backed = λ x. ap P.back (pair_backed P.name (P.pair x)) ∙ P.backed x;
  alike = λ a b same. pairs_alike P a.directory b.directory same;
  Fits = λ x. Unit {0};
  refit = λ l s fit step. from_sets (record s { directory = P.set l s.directory }) (P.refit l s (fit_sets s fit));
}

-- clients
abbrev pub clients : PairsOf Client
clients = record {
  at = 0;
  name = codes "client";
  pair = client_pair;
  key = client_key;
  get = λ d. d.clients;
  set = λ l d. record d { clients = l };
  back = λ p. record { org = p.0.0; client = p.0.1 };
  backed = λ x. refl;
  rises = λ d sound. rising _ d.clients sound.clients.rising;
  own = λ d. refl;
  others = λ l d. refl;
  itself = refl;
  apart = λ d. refl;
  now = λ l s. refl;
  refit = λ l s fit. fit;
}

-- members of communities
abbrev pub memberships : PairsOf Membership
memberships = record {
  at = 1;
  name = codes "member";
  pair = membership_pair;
  key = membership_key;
  get = λ d. d.memberships;
  set = λ l d. record d { memberships = l };
  back = λ p. record { community = p.0.0; org = p.0.1 };
  backed = λ x. refl;
  rises = λ d sound. rising _ d.memberships sound.memberships.rising;
  own = λ d. refl;
  others = λ l d. refl;
  itself = refl;
  apart = λ d. refl;
  now = λ l s. refl;
  refit = λ l s fit. fit;
}

-- connected communities
abbrev pub connections : PairsOf Connection
connections = record {
  at = 2;
  name = codes "link";
  pair = connection_pair;
  key = connection_key;
  get = λ d. d.connections;
  set = λ l d. record d { connections = l };
  back = λ p. record { low = p.0.0; high = p.0.1 };
  backed = λ x. refl;
  rises = λ d sound. rising _ d.connections sound.connections.rising;
  own = λ d. refl;
  others = λ l d. refl;
  itself = refl;
  apart = λ d. refl;
  now = λ l s. refl;
  refit = λ l s fit. fit;
}

-- members of groups
abbrev pub group_members : PairsOf GroupMember
group_members = record {
  at = 3;
  name = codes "grp_member";
  pair = group_member_pair;
  key = group_member_key;
  get = λ d. d.group_members;
  set = λ l d. record d { group_members = l };
  back = λ p. record { group = p.0.0; org = p.0.1; extend = is_one p.1 };
  backed = λ m i. record m { extend = bit_back m.extend i };
  rises = λ d sound. rising _ d.group_members sound.group_members.rising;
  own = λ d. refl;
  others = λ l d. refl;
  itself = refl;
  apart = λ d. refl;
  now = λ l s. refl;
  refit = λ l s fit. fit;
}

-- arrangements
abbrev pub arrangements : PairsOf Arrangement
arrangements = record {
  at = 4;
  name = codes "arrangement";
  pair = arrangement_pair;
  key = arrangement_key;
  get = λ d. d.arrangements;
  set = λ l d. record d { arrangements = l };
  back = λ p. record { source = p.0.0; org = p.0.1; handling = handling_of (unwrap_or p.1 0) };
  backed = λ a i. record a { handling = handling_back a.handling i };
  rises = λ d sound. rising _ d.arrangements sound.arrangements.rising;
  own = λ d. refl;
  others = λ l d. refl;
  itself = refl;
  apart = λ d. refl;
  now = λ l s. refl;
  refit = λ l s fit. fit;
}

-- the pair of two numbers is taken out of its set
pub pair_taken : {S : Type 0} (g : store.Ghosts S) {X : Type 0} (P : PairsOf X) (s : State) (a b : ℕ)
    → (old new : Held S) {T : Type 0} {result : Result T Error} → Goes (state g old) (state g new) result
    → (HasCleanDisk (state g new) → IsTrue (state g old).in_transaction →
    OnOk result (HasRun g take_pair (Text P.name ∷ Int (pos a) ∷ Int (pos b) ∷ []) old new))
    → Makes (state g old) (state g new) (λ db. Holds db s)
    (λ db. Holds db ((in_pairs P).set (filter (λ x. not (is_pair a b (P.pair x))) (P.get s.directory)) s)) result
pair_taken g P s a b old new goes ran =
    let d = s.directory in
    let left = filter (λ x. not (is_pair a b (P.pair x))) (P.get d) in
    let sets = pair_sets d in
    taken_from g (in_pairs P) s take_pair_is _ old new goes ran (is_row P.name a b) (λ x. is_pair a b (P.pair x))
    (past 0 (0 ∷ 1 ∷ 2 ∷ []) (Text P.name ∷ Int (pos a) ∷ Int (pos b) ∷ []))
    (pair_out P.at sets (pair_sets (P.set left d)) P.name a b (map P.pair (P.get d)) (P.own d) P.itself
    (P.others left d ∙ ap (λ l. take P.at sets ++ (P.name, l) ∷ drop (suc P.at) sets)
    (sym (filter-map (λ (p : Pair). not (is_pair a b p)) P.pair (P.get d)))) (P.apart d))
