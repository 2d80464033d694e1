use Rattle.{std.{proofs.Common.{◌≡◌, map, drop}, specs.List.AllByRecursion}, serde_json.specs.Find.get_member, iodef_tree.specs.View.{forest, named}}
use Rattle.iodef_tree.specs.{View.members_forest, inner.{SoundParts.AreKept, Written.members_of}}
use Rattle.iodef_tree.proofs.value.member_named.Given as goal

abbrev pub invariant-loop-own : goal.invariant-loop-own
invariant-loop-own l = record {
  left : get_member l.name (members_of (members_forest (drop l.own-index l.own-items))) ≡ get_member l.name (members_of (forest l.object));
  kept : AllByRecursion (λ m. AreKept m.1) (map named (drop l.own-index l.own-items));
}
