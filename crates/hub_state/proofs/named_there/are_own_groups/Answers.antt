use Rattle.std.{proofs.Common.{rules, ◌≡◌, ◌&&◌, true, Bool, sym, ap, subst, ◌∙◌, arith}, specs.{List.list_all, Prelude.IfOk}}
use Rattle.hub_state.specs.{Requests.is_own_group, declared.request.WantedGate.WantedGate}
use Rattle.hub_state.proofs.named_there.are_own_groups.Goals as goal

pub returns-then-branch : goal.returns-then-branch
returns-then-branch g c = record {
  value = λ clean s has.
      let mid : g.L.LookUps.doubts c.is_own_group.new.shelf ≡ 0 = omega (arith, c.are_all_own.ensures.kept.doubt) in
      let own = c.in_ok-is_own_group.ensures in
      let a = c.args.actor.now in
      let first : true ≡ is_own_group s a c.args.distribution.now.group = sym c.if-branch.true ∙ own.value mid s has in
      let P : Bool → Type 0 = λ due. IfOk c.are_all_own.result (λ b. b ≡ due) in
      subst P
      (ap (list_all (λ (w : WantedGate). is_own_group s a w.group)) c.as_slice.ensures
      ∙ ap (λ b. b && list_all (λ (w : WantedGate). is_own_group s a w.group) c.args.distribution.now.gates) first)
      (c.are_all_own.ensures.value clean s (own.kept.content mid s has));
  kept = search rules;
  cause = search rules;
  counted = search rules;
}
