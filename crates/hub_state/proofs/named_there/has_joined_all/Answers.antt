use Rattle.{std.{proofs.Common.{rules, ◌≡◌, ◌&&◌, true, Bool, sym, ap, subst, ◌∙◌, arith}, specs.Prelude.IfOk}, hub_state.specs.Requests.is_own_community}
use Rattle.hub_state.specs.Requests.{are_own_groups}
use Rattle.hub_state.proofs.named_there.has_joined_all.Goals as goal

pub returns-then-branch : goal.returns-then-branch
returns-then-branch g c = record {
  value = λ clean s has.
      let mid : g.L.LookUps.doubts c.is_own_community.new.shelf ≡ 0 = omega (arith, c.are_own_groups.ensures.kept.doubt) in
      let own = c.in_ok-is_own_community.ensures in
      let a = c.args.actor.now in
      let first : true ≡ is_own_community s a c.args.distribution.now.community = sym c.if-branch.true ∙ own.value mid s has in
      let P : Bool → Type 0 = λ due. IfOk c.are_own_groups.result (λ b. b ≡ due) in
      subst P
      (ap (λ b. b && are_own_groups s a c.args.distribution.now) first)
      (c.are_own_groups.ensures.value clean s (own.kept.content mid s has));
  kept = search rules;
  cause = search rules;
  counted = search rules;
}
