use Rattle.{std.proofs.Common.{rules, ◌≡◌, Bool, IfOk, subst}, hub_state.proofs.Marked.met_found}
use Rattle.hub.proofs.asker.is_met.Goals as goal

pub returns : goal.returns
returns g c = record {
  value = λ clean s has sound.
      let P : Bool → Type 0 = λ due. IfOk c.meets.result (λ met. met ≡ due) in
      subst P (met_found c.args.incident c.args.case c.args.standing c.args.want s sound) (c.meets.ensures.value clean s has);
  kept = search rules;
  cause = search rules;
  counted = search rules;
}
