use Rattle.std.{proofs.Common.{rules, ◌≡◌, Option, Some, IfOk, sym, ap, subst, ◌∙◌, arith, string_bytes}, specs.Prelude.option_map}
use Rattle.{iodef_tree.specs.Text.Bytes, redact.specs.Wants.meets_by, hub_core.specs.Reads.case_for, hub_state.specs.declared.reply.Reply.Reply}
use Rattle.{hub_state.specs.declared.{reply.Reply.TheVariants.Incidents, state.Incident.Incident}, hub.specs.{Replies.page_of, Serving.searched}}
use Rattle.hub.specs.Told.{standing_at}
use Rattle.hub.proofs.reads.search.Goals as goal

pub returns : goal.returns
returns g c = record {
  value = λ clean s has sound there.
      let now = c.args.asker.now in
      let p = c.args.asker.person.now in
      let asked = c.args.asked.now in
      let want = c.in_ok-want-in-Ok.want in
      let mid : g.Sh.Shelf.doubts c.facts.new.self ≡ 0 = omega (arith, c.list.ensures.kept.doubt) in
      let read = c.in_ok-facts.ensures in
      let page = λ (t k : Option Bytes). Incidents (page_of (λ (i : Incident). meets_by t k i.document (case_for s i) (standing_at s now p i)) asked.after s) in
      let P : Reply → Type 0 = λ due. IfOk c.list.result (λ reply. reply ≡ due) in
      subst P
      (ap (λ t. page t (option_map string_bytes want.class)) c.in_ok-want-in-Ok.ensures.needle
      ∙ ap (page (Some asked.needle)) c.in_ok-want-in-Ok.ensures.class
      ∙ ap (λ refusal. searched refusal s now p asked) (sym (c.in-Ok.ensures.allowed s (read.value mid s has))))
      (c.list.ensures.value clean s (read.kept.content mid s has) sound there);
  kept = search rules;
  cause = search rules;
  counted = search rules;
}
