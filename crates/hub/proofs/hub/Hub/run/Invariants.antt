use Rattle.{std.{proofs.Common.{◌≡◌, ◌≤◌, Option, take, length, vec_len}, specs.Vec.vec_capacity}, hub_core.specs.{Sound.IsSound, State.State}}
use Rattle.hub.specs.{Faults.{AreCounted, failures_told}, Machine.IsRun, OneByOne.AreAnswers, inner.InTurn.MayBeLeftInTurn}
use Rattle.hub.proofs.hub.Hub.run.Given as goal

abbrev pub invariant-loop-one : goal.invariant-loop-one
invariant-loop-one g l =
    let shelf = g.Sh.Shelf in
    record {
      room : length l.asked ≤ vec_capacity l.replies;
      count : vec_len l.replies ≡ l.one-index;
      later : shelf.failed l.fn.self ≤ shelf.failed l.self;
      doubt : shelf.doubts l.fn.self ≤ shelf.doubts l.self;
      each : AreAnswers shelf.has shelf.doubts shelf.failed shelf.may_remain l.fn.self (take l.one-index l.asked) l.replies.items l.self;
      told : shelf.doubts l.self ≡ 0 → (s : State) → shelf.has l.fn.self s → IsSound s
          → (mid : State) × IsRun s (take l.one-index l.asked) l.replies.items mid × shelf.has l.self mid;
      cause : shelf.doubts l.self ≡ 0 → (s : State) → shelf.has l.fn.self s → IsSound s → AreCounted (failures_told l.replies.items) (shelf.failed l.fn.self) (shelf.failed l.self);
      crash : shelf.doubts l.self ≡ 0 → (s : State) → shelf.has l.fn.self s → IsSound s → (left : Option State) → shelf.may_remain l.self left → MayBeLeftInTurn (shelf.may_remain l.fn.self) s (take l.one-index l.asked) l.replies.items left;
    }
