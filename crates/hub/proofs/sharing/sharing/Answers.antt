use Rattle.std.proofs.{Common.{rules, ◌≡◌, IfOk, subst, sym, ap, ◌∙◌, SFits, w64, to_z-of_z}, lemmas.Bool.eqb-true}
use Rattle.{hub_state.specs.declared.reply.Reply.TheVariants.Sharing, hub.{proofs.Shared.found-due, specs.Told.sharing_made}}
use Rattle.hub.proofs.sharing.sharing.Goals as goal

pub returns-in_ok-told-in-Some : goal.returns-in_ok-told-in-Some
returns-in_ok-told-in-Some g c = record {
  value = λ clean s has.
      let now = c.args.asker.now in
      let fits : SFits w64 c.args.asker.now = search rules in
      let found = c.in-Some.found in
      let made = subst (λ t. IfOk c.sharing_at.result (λ x. x ≡ sharing_made t found)) (to_z-of_z fits) c.sharing_at.ensures in
      let told : c.in_ok-told-in-Some.told ≡ sharing_made now found =
      subst (λ r. IfOk r (λ x. x ≡ sharing_made now found)) c.in_ok-told-in-Some.ensures.value made in
      let own : found.naming.source ≡ c.args.asker.person.now.org =
      eqb-true found.naming.source c.args.asker.person.now.org (sym c.is_own.ensures ∙ c.if-is_own.true) in
      ap Sharing told
      ∙ found-due now c.args.asker.person.now s c.args.incident found
      (sym c.in-Some.is ∙ c.in_ok-found.ensures.value clean s has) own;
  kept = search rules;
  cause = search rules;
  counted = search rules;
}
