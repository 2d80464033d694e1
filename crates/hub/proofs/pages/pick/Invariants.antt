use Rattle.{std.proofs.Common.{◌≡◌, ◌≤◌, ◌++◌, filter, take, drop, length}, hub_core.specs.{Shelves.IsKept, Sound.IsSound, State.State}}
use Rattle.{hub_state.specs.declared.reply.Entry.Entry, hub.specs.{declared.TheConstants.PAGE_LIMIT, inner.{Asking.IsThere, PageFilter.is_wanted_at}}}
use Rattle.hub.proofs.pages.pick.Given as goal

abbrev pub invariant-loop-entry : goal.invariant-loop-entry
invariant-loop-entry g l =
    let shelf = g.Sh.Shelf in
    record {
      room : length l.listed.items ≤ PAGE_LIMIT;
      kept : IsKept shelf.has shelf.doubts shelf.failed shelf.may_remain l.initial.shelf l.shelf;
      uncounted : shelf.failed l.shelf ≡ shelf.failed l.initial.shelf;
      told : shelf.doubts l.shelf ≡ 0 → (s : State) → shelf.has l.initial.shelf s → IsSound s → IsThere s l.asker.person.now →
          take PAGE_LIMIT (l.listed.items ++ filter (λ (e : Entry). is_wanted_at s l.asker.now l.asker.person.now l.wanted e.number) (drop l.entry-index l.entries))
          ≡ take PAGE_LIMIT (l.initial.listed.items ++ filter (λ (e : Entry). is_wanted_at s l.asker.now l.asker.person.now l.wanted e.number) l.entries);
    }
