use Rattle.{std.proofs.Common.{◌≡◌, ◌≤◌, ◌-◌, ◌++◌, take, length}, hub_core.specs.{Shelves.IsKept, Sound.IsSound, State.State}, hub.proofs.Paging.passing_above}
use Rattle.hub.specs.{Replies.page_of, declared.TheConstants.PAGE_LIMIT, inner.{Asking.IsThere, PageFilter.is_wanted}}
use Rattle.hub.proofs.pages.page.Given as goal

abbrev pub invariant-pages : goal.invariant-pages
invariant-pages g l =
    let shelf = g.Sh.Shelf in
    record {
      room : length l.listed.items ≤ PAGE_LIMIT;
      kept : IsKept shelf.has shelf.doubts shelf.failed shelf.may_remain l.initial.shelf l.shelf;
      uncounted : shelf.failed l.shelf ≡ shelf.failed l.initial.shelf;
      told : shelf.doubts l.shelf ≡ 0 → (s : State) → shelf.has l.initial.shelf s → IsSound s → IsThere s l.asker.person.now →
          take PAGE_LIMIT (l.listed.items ++ passing_above s (is_wanted s l.asker.now l.asker.person.now l.wanted) l.above) ≡ page_of (is_wanted s l.asker.now l.asker.person.now l.wanted) l.after s;
    }

abbrev pub decreases-pages : goal.decreases-pages
decreases-pages g l = 4294967295 - l.above
