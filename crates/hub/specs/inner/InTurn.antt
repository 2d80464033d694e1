-- What a stop may leave after a list of requests, one request after another.
use Rattle.std.specs.Prelude.{◌≡◌, ◌⊎◌, ◌↔◌, false, List, [], ◌∷◌, Option}
use Rattle.hub_core.specs.State.{State}
use Rattle.hub_state.specs.declared.reply.Reply.{Reply}
use Rattle.hub.specs.Machine.{Asked, IsRun}
use Rattle.hub.specs.Serving.{is_made}
use Rattle.hub.specs.Stops.{IsDueChange, MayBeLeft, content_after}

-- What a stop may leave after a request, if it could have left `Before` before. It may leave the same, unless the reply
-- says that a change was made. If a change is due, it may leave what the request leaves.
abbrev pub MayBeLeftBy : (Option State → Type 0) → State → Asked → Reply → Option State → Type 0
MayBeLeftBy Before s asked reply left = (Before left × (is_made reply ≡ false)) ⊎ IsDueChange s asked left

-- the same after a list of requests, each from the content after the one before
abbrev pub MayBeLeftInTurn : (Option State → Type 0) → State → List Asked → List Reply → Option State → Type 0
MayBeLeftInTurn Before s [] [] left = Before left
MayBeLeftInTurn Before s (asked ∷ others) (reply ∷ replies) left =
    MayBeLeftInTurn (MayBeLeftBy Before s asked reply) (content_after s asked reply) others replies left
MayBeLeftInTurn Before s [] (reply ∷ replies) left = ⊥
MayBeLeftInTurn Before s (asked ∷ others) [] left = ⊥

-- After each run that started in `s`, what may be left is what may be left if the requests are taken one by one.
abbrev pub StopsAgree : (Option State → Type 0) → Type 0
StopsAgree Before = (s end : State) (asked : List Asked) (replies : List Reply) (left : Option State) →
    IsRun s asked replies end → MayBeLeft Before s asked replies left ↔ MayBeLeftInTurn Before s asked replies left
