-- Queries of the directory, by its pairs.
use Rattle.std.proofs.Common.{◌≡◌, ℕ, ◌<◌, pos, List, [], ◌∷◌, ◌++◌, map, filter, find, Bool, true, false, ◌&&◌, ◌||◌, ◌==◌, is_some, Option, Some, None}
use Rattle.std.proofs.{Common.{option_map, nat_cmp, refl, sym, ap, subst, ◌∙◌, arith}, Math.Bool.and_comm, lemmas.Bool.Decides.nat_tests}
use Rattle.std.{proofs.lemmas.List.Folds.list_any-append, specs.{List.list_any, Option.option_to_list, declared.cmp.Ordering.TheVariants.Less}}
use Rattle.{sqlite_value.specs.{Order.Row, declared.value.Value.{Value, TheVariants.Int}}, sqlite_trees.proofs.ListLemmas.{map-map, ascending-map}}
use Rattle.{sqlite_trees.proofs.ListLemmas.ascending_weaker, circle.{proofs.Lookup.any_having, specs.Directory.{Directory, has_membership, has_group_member}}}
use Rattle.circle.specs.Reads.{communities_of, members_of, connected_to, memberships_in_groups, share_community, joins, are_connected, arranged}
use Rattle.circle.specs.{Sound.IsSound, declared.directory.{Arrangement.Arrangement, Connection.Connection, GroupMember.GroupMember, Membership.Membership}}
use Rattle.{hub_state.proofs.{Counted.any_same, Keeping.any_map}, hub_store.proofs.LookUps.{AskedPairs.{Below, pairs_rise}, ByNumber.some_passes}}
use Rattle.hub_store.{proofs.{LookUps.{Listed.{rising_passing, first_decides}, PairRows.{found_pair, viewed_pairs}}, Rows.Found.map_each}, specs.Pairs.Pair}
use Rattle.hub_store.specs.{Rows.{one_if, membership_pair, connection_pair, group_member_pair, arrangement_pair}, Values.flag}
use Rattle.hub_store.specs.{declared.pair_kind.PairKind.PairKind, inner.PairKinds.{pairs_of, pair_between, is_between, pairs_from, pairs_to, value_shown}}
use Rattle.hub_store.specs.inner.{PairKinds.first_shown, ShownPairs.{handling_shown, joined_shown, joined_of, AreRising, is_one_of, linked_with}}
use Rattle.hub_store.specs.declared.pair_kind.PairKind.TheVariants as kind

-- ---- arrangements and groups

pub arranged_rows : (source org : ℕ) (d : Directory) → map value_shown (option_to_list (pair_between kind.Arrangement source org d)) ≡ map handling_shown (option_to_list (arranged source org d))
arranged_rows source org d = ap (λ (o : Option Pair). map value_shown (option_to_list o)) (found_pair arrangement_pair (is_between source org) d.arrangements) ∙ go (find (λ (a : Arrangement). a.source == source && a.org == org) d.arrangements)
  where
    go : (o : Option Arrangement) → map value_shown (option_to_list (option_map arrangement_pair o)) ≡ map handling_shown (option_to_list (option_map (λ (a : Arrangement). a.handling) o))
    go None = refl
    go (Some a) = refl

pub member_found : (group org : ℕ) (d : Directory) → is_some (pair_between kind.GroupMember group org d) ≡ has_group_member group org d
member_found group org d = ap is_some (found_pair group_member_pair (is_between group org) d.group_members) ∙ some_passes group_member_pair (λ (m : GroupMember). m.group == group && m.org == org) d.group_members

pub as_flag : (b : Bool) → ◌≡◌ {A = Value} (Int (pos (one_if b))) (flag b)
as_flag true = refl
as_flag false = refl

abbrev two_columns : ℕ → Value → Row
two_columns n v = Int (pos n) ∷ v ∷ []

pub membership_rows : (org : ℕ) (d : Directory) → map first_shown (pairs_to kind.GroupMember org d) ≡ map joined_shown (map joined_of (memberships_in_groups org d))
membership_rows org d =
    viewed_pairs group_member_pair first_shown (λ (p : Pair). p.0.1 == org) d.group_members
    ∙ map_each (λ (m : GroupMember). first_shown (group_member_pair m)) (λ (m : GroupMember). joined_shown (joined_of m)) (λ m. ap (two_columns m.group) (as_flag m.extend)) (memberships_in_groups org d)
    ∙ sym (map-map joined_shown joined_of (memberships_in_groups org d))

-- ---- communities

less_is : (a b : ℕ) → nat_cmp a b ≡ Less → a < b
less_is a b h = grind (arith, nat_tests)

-- the first numbers of the pairs with one second number rise
firsts_rise : (k : PairKind) (b : ℕ) (d : Directory) → IsSound d → AreRising (map (λ (p : Pair). p.0.0) (pairs_to k b d))
firsts_rise k b d sound =
    ascending-map _ (λ (p : Pair). p.0.0) (pairs_to k b d)
    (ascending_weaker _ _ (λ p q h. less_is p.0.0 q.0.0 (first_decides p.0.0 q.0.0 p.0.1 q.0.1 b h.0 h.1.1 h.1.0)) (pairs_to k b d) (rising_passing Below (λ (p : Pair). p.0.1 == b) (pairs_of k d) (pairs_rise k d sound)))

pub communities_are : (org : ℕ) (d : Directory) → map (λ (p : Pair). p.0.0) (pairs_to kind.Membership org d) ≡ communities_of org d
communities_are org d = viewed_pairs membership_pair (λ (p : Pair). p.0.0) (λ (p : Pair). p.0.1 == org) d.memberships

pub members_are : (community : ℕ) (d : Directory) → map (λ (p : Pair). p.0.1) (pairs_from kind.Membership community d) ≡ members_of community d
members_are community d = viewed_pairs membership_pair (λ (p : Pair). p.0.1) (λ (p : Pair). p.0.0 == community) d.memberships

-- the communities below this one, then those above it
pub connected_are : (n : ℕ) (d : Directory) (below above : List ℕ)
    → below ≡ map (λ (p : Pair). p.0.0) (pairs_to kind.Connection n d) → above ≡ map (λ (p : Pair). p.0.1) (pairs_from kind.Connection n d)
    → below ++ above ≡ connected_to n d
connected_are n d below above is also =
    ap (λ l. l ++ above) (is ∙ viewed_pairs connection_pair (λ (p : Pair). p.0.0) (λ (p : Pair). p.0.1 == n) d.connections)
    ∙ ap (λ l. map (λ (c : Connection). c.low) (filter (λ (c : Connection). c.high == n) d.connections) ++ l)
    (also ∙ viewed_pairs connection_pair (λ (p : Pair). p.0.1) (λ (p : Pair). p.0.0 == n) d.connections)

pub communities_rise : (org : ℕ) (d : Directory) → IsSound d → AreRising (communities_of org d)
communities_rise org d sound = subst AreRising (communities_are org d) (firsts_rise kind.Membership org d sound)

-- a community is one of an organisation's exactly if the organisation is a member of it
pub among_communities : (n org : ℕ) (d : Directory) → is_one_of (communities_of org d) n ≡ has_membership n org d
among_communities n org d =
    any_map (λ m. m == n) (λ (m : Membership). m.community) (filter (λ (m : Membership). m.org == org) d.memberships)
    ∙ any_having (λ (m : Membership). m.org == org) (λ (m : Membership). m.community == n) d.memberships
    ∙ any_same _ _ d.memberships (λ (m : Membership). and_comm (m.org == org) (m.community == n))

pub share_is : (org other : ℕ) (d : Directory) → list_any (is_one_of (communities_of other d)) (communities_of org d) ≡ share_community org other d
share_is org other d = any_same _ _ (communities_of org d) (λ n. among_communities n other d)

-- ---- connected communities

turned : (a b : ℕ) → (a == b) ≡ (b == a)
turned a b = grind (arith, nat_tests)

four_ways : (a b c e : Bool) → ((a || b) || (c || e)) ≡ ((a || c) || (b || e))
four_ways a b c e = grind arith

any_or : {X : Type 0} (p q : X → Bool) (xs : List X) → (list_any p xs || list_any q xs) ≡ list_any (λ x. p x || q x) xs
any_or p q [] = refl
any_or p q (x ∷ xs) = four_ways (p x) (list_any p xs) (q x) (list_any q xs) ∙ ap (λ b. (p x || q x) || b) (any_or p q xs)

and_or : (a b c : Bool) → ((a && b) || (c && b)) ≡ ((a || c) && b)
and_or a b c = grind arith

any_and : {X : Type 0} (p : X → Bool) (b : Bool) (xs : List X) → list_any (λ x. p x && b) xs ≡ (list_any p xs && b)
any_and p b [] = refl
any_and p b (x ∷ xs) = ap (λ c. (p x && b) || c) (any_and p b xs) ∙ and_or (p x) b (list_any p xs)

never_any : {X : Type 0} (xs : List X) → false ≡ list_any (λ x. false) xs
never_any [] = refl
never_any (x ∷ xs) = never_any xs

exchanged : {X Y : Type 0} (p : X → Y → Bool) (xs : List X) (ys : List Y) → list_any (λ x. list_any (p x) ys) xs ≡ list_any (λ y. list_any (λ x. p x y) xs) ys
exchanged p [] ys = never_any ys
exchanged p (x ∷ xs) ys = ap (λ b. list_any (p x) ys || b) (exchanged p xs ys) ∙ any_or (p x) (λ y. list_any (λ x. p x y) xs) ys

-- the community is one of the two, and the organisation is of the other
abbrev reaches : ℕ → Directory → ℕ → Connection → Bool
reaches other d n l = (l.low == n && has_membership l.high other d) || (l.high == n && has_membership l.low other d)

module _ (org other : ℕ) (d : Directory) where
  -- a community is connected with one of the other's
  linked_is : (n : ℕ) → list_any (is_one_of (communities_of other d)) (linked_with n d) ≡ list_any (reaches other d n) d.connections
  linked_is n =
      let above = map (λ (p : Pair). p.0.1) (pairs_from kind.Connection n d) in
      let below = map (λ (p : Pair). p.0.0) (pairs_to kind.Connection n d) in
      let up : list_any (λ m. has_membership m other d) above ≡ list_any (λ (l : Connection). l.low == n && has_membership l.high other d) d.connections =
      ap (list_any (λ m. has_membership m other d)) (viewed_pairs connection_pair (λ (p : Pair). p.0.1) (λ (p : Pair). p.0.0 == n) d.connections) ∙ any_map (λ m. has_membership m other d) (λ (l : Connection). l.high) (filter (λ (l : Connection). l.low == n) d.connections) ∙ any_having (λ (l : Connection). l.low == n) (λ (l : Connection). has_membership l.high other d) d.connections in
      let down : list_any (λ m. has_membership m other d) below ≡ list_any (λ (l : Connection). l.high == n && has_membership l.low other d) d.connections =
      ap (list_any (λ m. has_membership m other d)) (viewed_pairs connection_pair (λ (p : Pair). p.0.0) (λ (p : Pair). p.0.1 == n) d.connections) ∙ any_map (λ m. has_membership m other d) (λ (l : Connection). l.low) (filter (λ (l : Connection). l.high == n) d.connections) ∙ any_having (λ (l : Connection). l.high == n) (λ (l : Connection). has_membership l.low other d) d.connections in
      any_same _ _ (linked_with n d) (λ m. among_communities m other d)
      ∙ list_any-append (λ m. has_membership m other d) above below
      ∙ (ap (λ b. b || list_any (λ m. has_membership m other d) below) up ∙ ap (λ b. list_any (λ (l : Connection). l.low == n && has_membership l.high other d) d.connections || b) down)
      ∙ any_or (λ (l : Connection). l.low == n && has_membership l.high other d) (λ (l : Connection). l.high == n && has_membership l.low other d) d.connections

  among : (m : ℕ) → list_any (λ n. m == n) (communities_of org d) ≡ has_membership m org d
  among m = any_same _ _ (communities_of org d) (λ n. turned m n) ∙ among_communities m org d

  joined_by : (l : Connection) → list_any (λ n. reaches other d n l) (communities_of org d) ≡ joins org other d l
  joined_by l =
      sym (any_or (λ n. l.low == n && has_membership l.high other d) (λ n. l.high == n && has_membership l.low other d) (communities_of org d))
      ∙ (ap (λ b. b || list_any (λ n. l.high == n && has_membership l.low other d) (communities_of org d)) (any_and (λ n. l.low == n) (has_membership l.high other d) (communities_of org d) ∙ ap (λ b. b && has_membership l.high other d) (among l.low))
      ∙ ap (λ b. (has_membership l.low org d && has_membership l.high other d) || b) (any_and (λ n. l.high == n) (has_membership l.low other d) (communities_of org d) ∙ ap (λ b. b && has_membership l.low other d) (among l.high)))

  -- one of the organisation's communities is connected with one of the other's
  pub connected_is : list_any (λ n. list_any (is_one_of (communities_of other d)) (linked_with n d)) (communities_of org d) ≡ are_connected org other d
  connected_is =
      any_same _ _ (communities_of org d) linked_is
      ∙ exchanged (reaches other d) (communities_of org d) d.connections
      ∙ any_same _ _ d.connections joined_by

pub connected_from : (org other : ℕ) (d : Directory) (own others : List ℕ) → own ≡ communities_of org d → others ≡ communities_of other d → list_any (λ n. list_any (is_one_of others) (linked_with n d)) own ≡ are_connected org other d
connected_from org other d own others is also =
    ap (list_any (λ n. list_any (is_one_of others) (linked_with n d))) is
    ∙ (ap (λ l. list_any (λ n. list_any (is_one_of l) (linked_with n d)) (communities_of org d)) also ∙ connected_is org other d)
