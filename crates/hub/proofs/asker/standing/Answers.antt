use Rattle.{std.proofs.Common.{◌≡◌, Option, IfOk, subst, SFits, w64, rules, to_z-of_z}, policy.specs.declared.standing.Standing.Standing}
use Rattle.{hub_core.specs.Reads.standing_of, hub.proofs.Standings.standing_of-there}
use Rattle.hub.proofs.asker.standing.Goals as goal

pub returns : goal.returns
returns g c = record {
  value = λ clean s has there.
      let fits : SFits w64 c.args.asker.now = search rules in
      let P : Option Standing → Type 0 = λ due. IfOk c.standing.result (λ found. found ≡ due) in
      subst P (standing_of-there s c.args.asker.now c.args.asker.person.now c.args.incident there)
      (subst (λ t. P (standing_of c.args.asker.person.now.number c.args.incident t s)) (to_z-of_z fits) (c.standing.ensures.value clean s has));
  kept = search rules;
  cause = search rules;
  counted = search rules;
}
