use Rattle.{std.proofs.Common.{◌≡◌, drop}, hub_state.specs.{Facts.posted_in, Shelves.IsKept, State.State}}
use Rattle.hub_state.proofs.posted_earlier.posted_among.Given as goal

abbrev pub invariant-loop-document : goal.invariant-loop-document
invariant-loop-document g l =
    let shelf = g.L.LookUps in
    record {
      kept : IsKept shelf.has shelf.doubts shelf.failed shelf.may_remain l.initial.shelf l.shelf;
      uncounted : shelf.failed l.shelf ≡ shelf.failed l.initial.shelf;
      left : shelf.doubts l.shelf ≡ 0 → (s : State) → shelf.has l.initial.shelf s → posted_in s l.source (drop l.document-index l.documents) ≡ posted_in s l.source l.documents;
    }
