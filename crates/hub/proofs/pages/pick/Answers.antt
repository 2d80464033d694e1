use Rattle.std.proofs.{Common.{rules, ◌≡◌, ◌≤◌, ◌++◌, [], ◌∷◌, true, not, length, drop, filter, get_or, sym, ap, ◌∙◌, arith}, lemmas.Bool.cond-true}
use Rattle.{std.{proofs.lemmas.List.length-append, specs.Result.is_ok}, hub_state.specs.declared.reply.Entry.Entry, hub.proofs.Keeping.{kept_on, uncounted}}
use Rattle.hub.proofs.{Paging.{take_full, picked, passed_over, no_more}, pages.pick.Goals.{then-branch+else-is_err, else-branch}}
use Rattle.hub.specs.{declared.TheConstants.PAGE_LIMIT, inner.PageFilter.is_wanted_at}
use Rattle.hub.proofs.pages.pick.Goals as goal

pub returns-then-len-eq-PAGE_LIMIT-clause-found : goal.returns-then-len-eq-PAGE_LIMIT-clause-found
returns-then-len-eq-PAGE_LIMIT-clause-found g c = record {
  value = λ clean s has sound there.
      let test = λ (e : Entry). is_wanted_at s c.args.asker.now c.args.asker.person.now c.args.wanted e.number in
      let full : PAGE_LIMIT ≤ length c.loop-entry.listed.items = omega arith in
      sym (take_full PAGE_LIMIT c.loop-entry.listed.items (filter test (drop c.loop-entry.entry-index c.args.entries.now)) full c.loop-entry.invariant.room)
      ∙ c.loop-entry.invariant.told clean s has sound there;
  kept = search rules;
  cause = search rules;
  counted = search rules;
}

pub returns-clause-found : goal.returns-clause-found
returns-clause-found g c = record {
  value = λ clean s has sound there.
      let test = λ (e : Entry). is_wanted_at s c.args.asker.now c.args.asker.person.now c.args.wanted e.number in
      sym (no_more test c.args.entries.now c.loop-entry.entry-index c.loop-entry.listed.items (omega arith) c.loop-entry.invariant.room)
      ∙ c.loop-entry.invariant.told clean s has sound there;
  kept = search rules;
  cause = search rules;
  counted = search rules;
}

pub loop-entry-preserved : goal.loop-entry-preserved
loop-entry-preserved g c =
    let E = c.args.entries.now in
    let i = c.loop-entry.entry-index in
    let L = c.loop-entry.listed.items in
    let M = c.if-branch.listed.items in
    let d : Entry = record { number = 0; revision = 0; source = 0 } in
    let left = c.loop-entry.invariant in
    let read = c.in_ok-lists.ensures in
    elim c.if-branch.branch [
      | then-branch+else-is_err w ↦
          let ok : is_ok w.push.result ≡ true = w.is_err.ensures.negation ∙ ap not w.if-is_err.false in
          let grown : M ≡ L ++ get_or E i d ∷ [] = ap (λ v. v.items) w.listed-is ∙ w.push.ensures.items ∙ cond-true (is_ok w.push.result) _ _ ok in
          record {
            room = omega (arith, ap length grown, length-append L (get_or E i d ∷ []));
            kept = kept_on left.kept read.kept;
            uncounted = uncounted read.kept.later read.counted ∙ left.uncounted;
            told = λ clean s has sound there.
                let test = λ (e : Entry). is_wanted_at s c.args.asker.now c.args.asker.person.now c.args.wanted e.number in
                let before : g.Sh.Shelf.doubts c.loop-entry.shelf ≡ 0 = omega (arith, read.kept.doubt) in
                picked test E i d L M (omega arith) (sym (read.value clean s (left.kept.content before s has) sound there) ∙ w.if-branch.true) grown
                ∙ left.told before s has sound there;
          }
      | else-branch w ↦
          let same : M ≡ L = ap (λ v. v.items) w.listed-is in
          record {
            room = omega (arith, ap length same);
            kept = kept_on left.kept read.kept;
            uncounted = uncounted read.kept.later read.counted ∙ left.uncounted;
            told = λ clean s has sound there.
                let test = λ (e : Entry). is_wanted_at s c.args.asker.now c.args.asker.person.now c.args.wanted e.number in
                let before : g.Sh.Shelf.doubts c.loop-entry.shelf ≡ 0 = omega (arith, read.kept.doubt) in
                passed_over test E i d L M (omega arith) (sym (read.value clean s (left.kept.content before s has) sound there) ∙ w.if-branch.false) same
                ∙ left.told before s has sound there;
          }
    ]
