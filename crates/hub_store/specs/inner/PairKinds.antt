-- The sets in the table of pairs, each by its kind.
use Rattle.std.specs.Prelude.{ℕ, pos, Bool, ◌&&◌, ◌==◌, List, [], ◌∷◌, map, filter, find, Option, codes}
use Rattle.sqlite_value.specs.declared.value.Value.TheVariants.{Int}
use Rattle.sqlite_value.specs.Order.{Row}
use Rattle.circle.specs.Directory.{Directory}
use Rattle.hub_store.specs.Values.{number_or_null}
use Rattle.hub_store.specs.Pairs.{Pair}
use Rattle.hub_store.specs.Rows.{client_pair, membership_pair, connection_pair, group_member_pair, arrangement_pair}
use Rattle.hub_store.specs.declared.pair_kind.PairKind.{PairKind}
use Rattle.hub_store.specs.declared.pair_kind.PairKind.TheVariants as kind

-- the name of a set in the table of pairs
abbrev pub kind_name : PairKind → List ℕ
kind_name kind.Client = codes "client"
kind_name kind.Membership = codes "member"
kind_name kind.Connection = codes "link"
kind_name kind.GroupMember = codes "grp_member"
kind_name kind.Arrangement = codes "arrangement"

-- the pairs of a set
abbrev pub pairs_of : PairKind → Directory → List Pair
pairs_of kind.Client d = map client_pair d.clients
pairs_of kind.Membership d = map membership_pair d.memberships
pairs_of kind.Connection d = map connection_pair d.connections
pairs_of kind.GroupMember d = map group_member_pair d.group_members
pairs_of kind.Arrangement d = map arrangement_pair d.arrangements

-- ---- the pairs of two numbers, or of one

-- the pair is of these two numbers
abbrev pub is_between : ℕ → ℕ → Pair → Bool
is_between a b p = p.0.0 == a && p.0.1 == b

-- the pair of two numbers in a set, if it is there
abbrev pub pair_between : PairKind → ℕ → ℕ → Directory → Option Pair
pair_between kind a b d = find (is_between a b) (pairs_of kind d)

-- the pairs of a set with this first number, in the order of the second
abbrev pub pairs_from : PairKind → ℕ → Directory → List Pair
pairs_from kind a d = filter (λ (p : Pair). p.0.0 == a) (pairs_of kind d)

-- the pairs of a set with this second number, in the order of the first
abbrev pub pairs_to : PairKind → ℕ → Directory → List Pair
pairs_to kind b d = filter (λ (p : Pair). p.0.1 == b) (pairs_of kind d)

-- ---- the columns that the queries name

-- the column of the third number
abbrev pub value_shown : Pair → Row
value_shown p = number_or_null p.1 ∷ []

-- the columns of the first number and the third
abbrev pub first_shown : Pair → Row
first_shown p = Int (pos p.0.0) ∷ number_or_null p.1 ∷ []

-- the columns of the second number and the third
abbrev pub second_shown : Pair → Row
second_shown p = Int (pos p.0.1) ∷ number_or_null p.1 ∷ []
