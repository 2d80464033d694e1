use Rattle.{std.{proofs.Common.{◌≡◌, ◌++◌, ℕ, drop}, specs.{List.filter_map, Prelude.option_map}}, circle.specs.Reads.community_of}
use Rattle.hub_state.specs.Reads.{joined_community, joined_communities}
use Rattle.hub_state.proofs.state_rows.StateRows.joined_communities.Given as goal

abbrev pub invariant-loop-number : goal.invariant-loop-number
invariant-loop-number l =
    l.communities.items ++ filter_map (λ (n : ℕ). option_map (joined_community l.self.directory) (community_of n l.self.directory)) (drop l.number-index l.number-items)
    ≡ joined_communities l.person l.self
