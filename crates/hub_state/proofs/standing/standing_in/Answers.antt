use Rattle.{std.proofs.{Common.{w64, ap, ◌∙◌}, lemmas.Int.to_z-of_z}, hub_state.{proofs.Standings.made_for, specs.Reads.standing_for}}
use Rattle.hub_state.proofs.standing.standing_in.Goals as goal

pub returns : goal.returns
returns c = λ s p i reader shared ties.
    made_for s _ c.args.reader c.args.shared.now c.args.ties p i _ _ _ _ _ _ reader shared ties c.as_slice-targets.ensures c.as_slice.ensures c.is_target_among.ensures c.is_target_among-2.ensures c.is_client.ensures c.arrangement_in.ensures
    ∙ ap (λ t. standing_for s t p i) (to_z-of_z w64 c.args.now c.ranges.now)
