use Rattle.{std.proofs.{Common.{◌≡◌, Some, inl, inr, sym, ap, subst, ◌∙◌, arith}, lemmas.Bool.true≢false}, hub_core.proofs.Kept.stays_sound}
use Rattle.{hub_core.specs.{Edits.with_edits, Refusals.state_after, Sound.IsSound}, hub.{proofs.Changing.changed_reply, specs.Serving.{due_to, is_made}}}
use Rattle.hub.specs.Serving.{made_reply}
use Rattle.hub.proofs.change.change.Goals as goal

pub returns-in-Ok-apply-clause-step : goal.returns-in-Ok-apply-clause-step
returns-in-Ok-apply-clause-step g c = λ clean s has sound org changes.
    let now = c.args.asker.now in
    let p = c.args.asker.person.now in
    let r = c.args.request.now in
    let f = c.in_ok-facts.facts in
    let es = c.in-Ok.edits.items in
    let read = c.in_ok-facts.ensures in
    let judged = c.in-Ok.ensures in
    let made = c.in-Ok-apply.ensures in
    let mid : g.Sh.Shelf.doubts c.facts.new.self ≡ 0 = omega (arith, made.doubt) in
    let here = read.kept.content mid s has in
    let told = read.value mid s has in
    let same : with_edits es s ≡ state_after s p r = judged.made s sound told in
    let edits = c.as_slice-2.ensures.value in
    let done : with_edits c.as_slice-2.result.now s ≡ state_after s p r = ap (λ xs. with_edits xs s) edits ∙ same in
    let whole : IsSound (with_edits c.as_slice-2.result.now s) = subst IsSound (sym done) (stays_sound s p r sound org) in
    let due : c.in_ok-reply.reply ≡ due_to s now p r =
    changed_reply s now p r f es c.in_ok-reply.reply sound changes told judged.edits (judged.allowed s told) (λ fits. c.in_ok-reply.ensures.reply fits ∙ ap (made_reply f r) c.as_slice.ensures.value) in
    record {
      settled = (due, subst (g.Sh.Shelf.has c.apply.new.self) done (made.made clean s here whole));
      durable = λ is left.
          let both = made.durable clean s here whole left in
          (λ leaves. both.0 leaves ∙ ap Some done, λ same. both.1 (same ∙ sym (ap Some done)));
      crash = λ left leaves. elim (made.crash clean s here whole left leaves) [ inl before ↦ inl (read.kept.crash mid left before) | inr is ↦ inr (sym (ap is_made due) ∙ c.in_ok-reply.ensures.made, is ∙ ap Some done) ];
    }

pub returns-clause-step : goal.returns-clause-step
returns-clause-step g c = λ clean s has sound org changes.
    let now = c.args.asker.now in
    let p = c.args.asker.person.now in
    let r = c.args.request.now in
    let f = c.in_ok-facts.facts in
    let es = c.in-Ok.edits.items in
    let read = c.in_ok-facts.ensures in
    let judged = c.in-Ok.ensures in
    let made = c.in-Err-apply.ensures in
    let mid : g.Sh.Shelf.doubts c.facts.new.self ≡ 0 = omega (arith, made.doubt) in
    let here = read.kept.content mid s has in
    let told = read.value mid s has in
    let same : with_edits es s ≡ state_after s p r = judged.made s sound told in
    let done : with_edits c.as_slice-2.result.now s ≡ state_after s p r = ap (λ xs. with_edits xs s) c.as_slice-2.ensures.value ∙ same in
    let whole : IsSound (with_edits c.as_slice-2.result.now s) = subst IsSound (sym done) (stays_sound s p r sound org) in
    let due : c.in_ok-reply.reply ≡ due_to s now p r =
    changed_reply s now p r f es c.in_ok-reply.reply sound changes told judged.edits (judged.allowed s told) (λ fits. c.in_ok-reply.ensures.reply fits ∙ ap (made_reply f r) c.as_slice.ensures.value) in
    record {
      settled = made.none clean s here;
      durable = tt;
      crash = λ left leaves. elim (made.crash clean s here whole left leaves) [ inl before ↦ inl (read.kept.crash mid left before) | inr is ↦ inr (sym (ap is_made due) ∙ c.in_ok-reply.ensures.made, is ∙ ap Some done) ];
    }

pub returns-in-Ok-apply-clause-kept : goal.returns-in-Ok-apply-clause-kept
returns-in-Ok-apply-clause-kept g c = λ unmade. absurd (true≢false (sym c.in_ok-reply.ensures.made ∙ unmade))

pub returns-clause-kept : goal.returns-clause-kept
returns-clause-kept g c = λ unmade clean s has.
    let made = c.in-Err-apply.ensures in
    let mid : g.Sh.Shelf.doubts c.facts.new.self ≡ 0 = omega (arith, made.doubt, clean) in
    made.none clean s (c.in_ok-facts.ensures.kept.content mid s has)
