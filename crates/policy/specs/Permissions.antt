-- What a permission covers. It widens the audience of a marking, as the source may: FIRST TLP 2.0 asks for the
-- explicit permission of the source for wider sharing. It lasts as long as the source says, and like a marking it
-- reaches down to the next label (RFC 7970 section 3.3.1).
use Rattle.std.specs.Prelude.{Bool, true, not, ◌&&◌, ◌==◌, List, length, nat_lt, ℤ, int_lt, Option, Some, None, is_some}
use Rattle.std.specs.List.{list_all}
use Rattle.iodef_tree.specs.Text.{Tokens, is_prefix, prefixes}
use Rattle.iodef_tree.specs.Paths.{LocatedLine}
use Rattle.marking.specs.Marks.{written_label}
use Rattle.policy.specs.Numbers.{is_among}
use Rattle.policy.specs.declared.standing.Standing.{Standing}
use Rattle.policy.specs.declared.permission.Grantee.{Grantee}
use Rattle.policy.specs.declared.permission.Grantee.TheVariants.{Person, Org, Community, Group}
use Rattle.policy.specs.declared.permission.Permission.{Permission}

-- The grantee includes the reader: it is the reader, its organisation, a community of the organisation, or an active
-- group of which the organisation is a member.
abbrev pub includes : Standing → Grantee → Bool
includes s (Person n) = s.who == n
includes s (Org n) = s.org == n
includes s (Community n) = is_among n s.communities
includes s (Group n) = is_among n s.groups && is_among n s.active_groups

-- the moment is before the end, or there is no end; at its end a permission has ended
abbrev pub is_before : ℤ → Option ℤ → Bool
is_before now None = true
is_before now (Some end) = int_lt now end

-- the permission holds for the reader at some class: it includes the reader and hasn't ended
abbrev pub holds_for : Standing → Permission → Bool
holds_for s x = includes s x.grantee && is_before s.now x.until

-- no label is written in the class at r, or r isn't below q
abbrev pub is_unmarked_below : List LocatedLine → Tokens → Tokens → Bool
is_unmarked_below es q r = not (nat_lt (length q) (length r) && is_some (written_label es r))

-- a permission at q reaches p: q is a prefix of p, and no label is written on the way down from q to p
abbrev pub reaches : List LocatedLine → Tokens → Tokens → Bool
reaches es q p = is_prefix q p && list_all (is_unmarked_below es q) (prefixes p)

-- the permission covers the class at p for the reader
abbrev pub covers : List LocatedLine → Standing → Tokens → Permission → Bool
covers es s p x = holds_for s x && reaches es x.path p
