-- What a list of requests leads to.
use Rattle.std.specs.Prelude.{◌≡◌, ◌⊎◌, ℤ, List, [], ◌∷◌, Option, Some, None}
use Rattle.circle.specs.Outcomes.{bare}
use Rattle.circle.specs.declared.refusal.Code.TheVariants.{F1, F2}
use Rattle.circle.specs.declared.directory.Person.{Person}
use Rattle.hub_core.specs.State.{State}
use Rattle.hub_core.specs.Refusals.{state_after}
use Rattle.hub_state.specs.declared.reply.Reply.{Reply}
use Rattle.hub_state.specs.declared.reply.Reply.TheVariants.{Refused}
use Rattle.hub_state.specs.declared.request.Request.{Request}
use Rattle.hub.specs.Replies.{caller_of, reply_of}
use Rattle.hub.specs.declared.key.Key.{Key}

-- a moment in seconds since the beginning of 1970 (UTC), the caller's key, and the request
abbrev pub Asked : Type 0
Asked = ℤ × Key × Request

-- the state after a request of this person, and the same state if there is none
abbrev pub left_by : State → Option Person → Request → State
left_by s None request = s
left_by s (Some p) request = state_after s p request

-- the state that a request leaves
abbrev pub state_left : State → Key → Request → State
state_left s key request = left_by s (caller_of s key) request

-- the reply is the one that is due, and the state is the one that the request leaves
pub record IsAnswered (s : State) (now : ℤ) (key : Key) (request : Request) (reply : Reply) (left : State) : Type 0 where
  pub due : reply ≡ reply_of s now key request
  pub aftermath : left ≡ state_left s key request

-- the request is given up: F1 if the store failed, F2 if the memory didn't suffice
abbrev pub IsGivenUp : Reply → Type 0
IsGivenUp reply = (reply ≡ Refused (bare F1)) ⊎ (reply ≡ Refused (bare F2))

-- one step: the request is answered, or it is given up and the state stays
abbrev pub IsStep : State → Asked → Reply → State → Type 0
IsStep s asked reply left = IsAnswered s asked.0 asked.1 asked.2 reply left ⊎ (IsGivenUp reply × (left ≡ s))

-- a step for each request, each from the state that the one before left
abbrev pub IsRun : State → List Asked → List Reply → State → Type 0
IsRun s [] [] end = end ≡ s
IsRun s (asked ∷ others) (reply ∷ replies) end =
    (left : State) × IsStep s asked reply left × IsRun left others replies end
IsRun s [] (reply ∷ replies) end = ⊥
IsRun s (asked ∷ others) [] end = ⊥
