use Rattle.{std.proofs.Common.{rules, ◌≡◌, None, sym, ap, subst, ◌∙◌, arith}, iodef_tree.specs.Pointer.pointer_tokens, circle.specs.Reads.person_of}
use Rattle.{hub_core.specs.{Facts.facts_of, Refusals.refusal_of, State.incident_of}, hub_state.specs.declared.reply.Reply.TheVariants.Trace}
use Rattle.hub.{proofs.Explained.explained, specs.{Replies.refused_or, Told.trace_of}}
use Rattle.hub_state.specs.declared.request.Request.TheVariants as ask
use Rattle.hub.proofs.explanations.explain_to.Goals as goal

pub returns : goal.returns
returns g c = record {
  value = λ clean s has sound is.
      let asker = c.args.asker.person.now in
      let mid : g.Sh.Shelf.doubts c.facts.new.self ≡ 0 = omega (arith, c.find_text.ensures.kept.doubt) in
      let read = c.in_ok-facts.ensures in
      let fine = c.in-Ok.ensures.allowed s (read.value mid s has) in
      let told = trace_of s c.args.asker.now (person_of c.args.asked.now.person s.directory) (incident_of c.args.asked.now.incident s) (pointer_tokens c.args.asked.now.path) in
      let found : c.in_ok-facts.facts ≡ facts_of s asker (ask.Explain c.args.asked.now) = read.value mid s has ∙ ap (facts_of s asker) is in
      let text = c.in_ok-text-in-Ok.ensures.value clean s (read.kept.content mid s has) sound found in
      let there = explained s c.args.asker.now asker c.args.asked.now (subst (λ r. refusal_of s asker r ≡ None) is fine) in
      c.reply_of.ensures told (text ∙ there) ∙ ap (λ refusal. refused_or refusal (Trace told)) (sym fine);
  kept = search rules;
  cause = search rules;
  counted = search rules;
}
