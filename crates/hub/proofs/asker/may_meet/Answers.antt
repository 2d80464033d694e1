use Rattle.{std.proofs.{Common.{rules, ◌≡◌, false, subst, SFits, w64, sym, ◌∙◌, to_z-of_z}, lemmas.Result.IfOk-weaker}, hub_state.specs.Reads.met_for}
use Rattle.hub.proofs.Passing.{met_there}
use Rattle.hub.proofs.asker.may_meet.Goals as goal

pub returns : goal.returns
returns g c = record {
  value = λ clean s has sound there.
      let fits : SFits w64 c.args.asker.now = search rules in
      IfOk-weaker c.may_meet.result _ _
      (λ may told unmet. sym (met_there s c.args.asker.now c.args.asker.person.now c.args.want.now c.args.incident sound there)
      ∙ subst (λ t. met_for c.args.asker.person.now.number c.args.incident t c.args.want.now s ≡ false) (to_z-of_z fits) (told unmet))
      (c.may_meet.ensures.value clean s has);
  kept = search rules;
  cause = search rules;
  counted = search rules;
}
