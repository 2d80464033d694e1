use Rattle.{std.{proofs.Common.{◌≡◌, ◌++◌, drop}, specs.{List.filter_map, Prelude.option_map}}, circle.specs.Reads.group_of}
use Rattle.{circle.specs.declared.directory.GroupMember.GroupMember, hub_state.specs.Reads.{joined, groups_of}}
use Rattle.hub_state.proofs.state_rows.StateRows.joined_groups.Given as goal

abbrev pub invariant-loop-member : goal.invariant-loop-member
invariant-loop-member l = l.groups.items ++ filter_map (λ (m : GroupMember). option_map (joined m) (group_of m.group l.self.directory)) (drop l.member-index l.member-items) ≡ groups_of l.person l.self
