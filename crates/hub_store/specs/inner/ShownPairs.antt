-- What the rows of the directory's queries show.
use Rattle.std.specs.Prelude.{◌≡◌, ◌<◌, ◌==◌, ℕ, pos, Bool, List, [], ◌∷◌, ◌++◌, map, Option, option_map}
use Rattle.std.specs.List.{list_any, filter_map}
use Rattle.std.specs.Option.{option_map_or}
use Rattle.sqlite_value.specs.declared.value.Value.TheVariants.{Int, Text}
use Rattle.sqlite_value.specs.Order.{Row, column}
use Rattle.sqlite_trees.specs.Tree.{IsAscending}
use Rattle.circle.specs.declared.directory.Handling.{Handling}
use Rattle.circle.specs.declared.directory.Group.{Group}
use Rattle.circle.specs.declared.directory.GroupMember.{GroupMember}
use Rattle.circle.specs.Directory.{Directory}
use Rattle.circle.specs.Reads.{group_of, memberships_in_groups, community_of, communities_of}
use Rattle.hub_state.specs.Reads.{joined, joined_community}
use Rattle.hub_state.specs.declared.reply.JoinedGroup.{JoinedGroup}
use Rattle.hub_state.specs.declared.reply.JoinedCommunity.{JoinedCommunity}
use Rattle.hub_state.specs.declared.look_ups.Ties.{Ties}
use Rattle.hub_store.specs.Values.{flag}
use Rattle.hub_store.specs.Rows.{handling_number}
use Rattle.hub_store.specs.Pairs.{Pair}
use Rattle.hub_store.specs.inner.PairKinds.{pairs_from, pairs_to}
use Rattle.hub_store.specs.declared.joined_rows.Joined.{Joined}
use Rattle.hub_store.specs.declared.pair_kind.PairKind.TheVariants as kind

-- the first column is this number and no other
abbrev pub ShowsNumber : Row → ℕ → Type 0
ShowsNumber shown n = (m : ℕ) → column shown 0 ≡ Int (pos m) → n ≡ m

-- the column of a handling
abbrev pub handling_shown : Handling → Row
handling_shown h = Int (pos (handling_number h)) ∷ []

-- the columns of a member of a group, without its organisation
abbrev pub joined_shown : Joined → Row
joined_shown j = Int (pos j.group) ∷ flag j.extend ∷ []

-- the columns of a group
abbrev pub group_shown : Group → Row
group_shown g = Int (pos g.number) ∷ Int (pos g.owner) ∷ Text g.name ∷ Text g.releasability ∷ flag g.active ∷ []

-- a member of a group, without its organisation
abbrev pub joined_of : GroupMember → Joined
joined_of m = record { group = m.group; extend = m.extend }

-- a group as it is listed for this member
abbrev pub joined_group : Joined → Group → JoinedGroup
joined_group j g = record { number = g.number; owner = g.owner; name = g.name; releasability = g.releasability; active = g.active; extend = j.extend }

-- the numbers rise
abbrev pub AreRising : List ℕ → Type 0
AreRising = IsAscending (λ (a b : ℕ). a < b)

-- the number is one of these
abbrev pub is_one_of : List ℕ → ℕ → Bool
is_one_of ns n = list_any (λ m. m == n) ns

-- the communities that are connected with this one: first those with greater numbers, then those with smaller
abbrev pub linked_with : ℕ → Directory → List ℕ
linked_with community d =
    map (λ (p : Pair). p.0.1) (pairs_from kind.Connection community d)
    ++ map (λ (p : Pair). p.0.0) (pairs_to kind.Connection community d)

-- the group of a member's row, as it is listed, if it is there
abbrev pub group_if_any : Directory → Joined → Option JoinedGroup
group_if_any d j = option_map (joined_group j) (group_of j.group d)

-- the groups of which an organisation is a member, in the order of their numbers
abbrev pub groups_in : ℕ → Directory → List JoinedGroup
groups_in org d =
    filter_map (λ (m : GroupMember). option_map (joined m) (group_of m.group d)) (memberships_in_groups org d)

-- the community of this number as it is listed for one of its members, if it is there
abbrev pub community_if_any : Directory → ℕ → Option JoinedCommunity
community_if_any d n = option_map (joined_community d) (community_of n d)

-- the communities of which an organisation is a member, in the order of their numbers
abbrev pub communities_in : ℕ → Directory → List JoinedCommunity
communities_in org d = filter_map (community_if_any d) (communities_of org d)

-- one of these communities is connected with one of the others
abbrev pub are_linked : List ℕ → List ℕ → Directory → Bool
are_linked own others d = list_any (λ n. list_any (is_one_of others) (linked_with n d)) own

-- the community that is named is one of these; if none is named, whether they share one
abbrev pub is_peer : List ℕ → Option ℕ → Bool → Bool
is_peer own named shares = option_map_or (is_one_of own) named shares

-- how an organisation in these communities stands to a source in those
abbrev pub ties_between : List ℕ → List ℕ → Option ℕ → Bool → Option Handling → Ties
ties_between own others named connected arrangement = record {
  community = list_any (is_one_of others) own;
  peer = is_peer own named (list_any (is_one_of others) own);
  connected = connected;
  arrangement = arrangement;
}
