use Rattle.{std.proofs.Common.{rules, ◌≡◌, ◌≤◌, ◌++◌, List, [], Some, length, take, filter, sym, ap, ◌∙◌, arith}, hub_core.specs.Reads.entries_after}
use Rattle.{hub_state.specs.declared.reply.Entry.Entry, hub.proofs.{Keeping.{kept_on, kept_read, uncounted}, Paging.{take_full, no_end, passing_above}}}
use Rattle.hub.proofs.{Paging.{page_on, page_end, none_read}, pages.page.Goals.{else-pages-test, then-pages-test+in_ok-entries+in-None}}
use Rattle.hub.{proofs.pages.page.Goals.then-pages-test+in_ok-entries+in-Some+then-last-above, specs.declared.TheConstants.PAGE_LIMIT}
use Rattle.hub.specs.inner.PageFilter.{is_wanted, is_wanted_at, number_at_end}
use Rattle.hub.proofs.pages.page.Goals as goal

pub returns : goal.returns
returns g c = record {
  value = let L = c.pages.listed.items in
      let left = c.pages.invariant in
      elim c.pages-test.branch [
        | else-pages-test w ↦ λ clean s has sound there.
            let test = is_wanted s c.args.asker.now c.args.asker.person.now c.args.wanted in
            let before : g.Sh.Shelf.doubts c.pages.shelf ≡ 0 = ap g.Sh.Shelf.doubts (sym w.shelf-is) ∙ clean in
            let full : PAGE_LIMIT ≤ length L = omega arith in
            sym (take_full PAGE_LIMIT L (passing_above s test c.pages.above) full left.room) ∙ left.told before s has sound there
        | then-pages-test+in_ok-entries+in-None w ↦ λ clean s has sound there.
            let test = is_wanted s c.args.asker.now c.args.asker.person.now c.args.wanted in
            let read = w.in_ok-entries.ensures in
            let mid : g.Sh.Shelf.doubts w.incidents_after.new.self ≡ 0 = ap g.Sh.Shelf.doubts (sym w.shelf-is) ∙ clean in
            let before : g.Sh.Shelf.doubts c.pages.shelf ≡ 0 = omega (arith, mid, read.kept.doubt) in
            let here = left.kept.content before s has in
            let E = entries_after c.pages.above PAGE_LIMIT s in
            let none : E ≡ [] = no_end E (ap number_at_end (sym (w.as_slice.ensures.value ∙ read.value mid s here)) ∙ sym w.in-None.ensures) in
            sym (page_end s test c.pages.above L sound none left.room) ∙ left.told before s has sound there
        | then-pages-test+in_ok-entries+in-Some+then-last-above w ↦ λ clean s has sound there.
            let test = is_wanted s c.args.asker.now c.args.asker.person.now c.args.wanted in
            let read = w.in_ok-entries.ensures in
            let mid : g.Sh.Shelf.doubts w.incidents_after.new.self ≡ 0 = ap g.Sh.Shelf.doubts (sym w.shelf-is) ∙ clean in
            let before : g.Sh.Shelf.doubts c.pages.shelf ≡ 0 = omega (arith, mid, read.kept.doubt) in
            let here = left.kept.content before s has in
            let E = entries_after c.pages.above PAGE_LIMIT s in
            let last : number_at_end E ≡ Some w.in-Some.last = ap number_at_end (sym (w.as_slice.ensures.value ∙ read.value mid s here)) ∙ sym w.in-Some.ensures in
            absurd (none_read s test c.pages.above w.in-Some.last sound last (omega (arith, w.if-last-above.true)))
      ];
  kept = search rules;
  cause = search rules;
  counted = search rules;
}

pub pages-preserved : goal.pages-preserved
pages-preserved g c =
    let L = c.pages.listed.items in
    let left = c.pages.invariant in
    let read = c.in_ok-entries.ensures in
    let pick = c.in_ok-pick.ensures in
    record {
      room = pick.room;
      kept = kept_on left.kept (kept_on (kept_read read.kept) pick.found.kept);
      uncounted = uncounted pick.found.kept.later pick.found.counted ∙ uncounted read.kept.cause.later read.kept.cause.counted ∙ left.uncounted;
      told = λ clean s has sound there.
          let test = is_wanted s c.args.asker.now c.args.asker.person.now c.args.wanted in
          let at = λ (e : Entry). is_wanted_at s c.args.asker.now c.args.asker.person.now c.args.wanted e.number in
          let mid : g.Sh.Shelf.doubts c.incidents_after.new.self ≡ 0 = omega (arith, pick.found.kept.doubt) in
          let before : g.Sh.Shelf.doubts c.pages.shelf ≡ 0 = omega (arith, mid, read.kept.doubt) in
          let here = left.kept.content before s has in
          let E = entries_after c.pages.above PAGE_LIMIT s in
          let is = read.value mid s here in
          let last : number_at_end E ≡ Some c.in-Some.last = ap number_at_end (sym (c.as_slice.ensures.value ∙ is)) ∙ sym c.in-Some.ensures in
          page_on s test c.pages.above c.in-Some.last L c.pick.new.listed.items sound last
          (pick.found.value clean s (read.kept.content mid s here) sound there ∙ ap (λ (es : List Entry). take PAGE_LIMIT (L ++ filter at es)) (c.as_slice-in-pages.ensures.value ∙ is))
          ∙ left.told before s has sound there;
    }
