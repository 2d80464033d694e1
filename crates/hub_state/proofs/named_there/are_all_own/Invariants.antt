use Rattle.{std.{proofs.Common.{◌≡◌, true, take}, specs.List.list_all}, hub_state.specs.{Requests.is_own_group, Shelves.IsKept, State.State}}
use Rattle.hub_state.specs.declared.request.WantedGate.{WantedGate}
use Rattle.hub_state.proofs.named_there.are_all_own.Given as goal

abbrev pub invariant-loop-gate : goal.invariant-loop-gate
invariant-loop-gate g l =
    let shelf = g.L.LookUps in
    record {
      kept : IsKept shelf.has shelf.doubts shelf.failed shelf.may_remain l.initial.shelf l.shelf;
      uncounted : shelf.failed l.shelf ≡ shelf.failed l.initial.shelf;
      all : shelf.doubts l.shelf ≡ 0 → (s : State) → shelf.has l.initial.shelf s → list_all (λ (w : WantedGate). is_own_group s l.actor w.group) (take l.gate-index l.gates) ≡ true;
    }
