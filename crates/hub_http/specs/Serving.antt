-- Serving one connection.
use Rattle.std.specs.Prelude.{◌≡◌, ◌⊎◌, ◌<◌, ◌↔◌, ℕ, ℤ, List, ◌++◌, Option, Some, Result, Ok, Err, is_some, true, IsTrue}
use Rattle.std.specs.Io.KnownBytes.{Consumes, Appends, Keeps, IsAtEnd}
use Rattle.hub_core.specs.Sound.{IsSound}
use Rattle.hub_core.specs.State.{State}
use Rattle.hub_state.specs.declared.reply.Reply.{Reply}
use Rattle.hub_state.specs.declared.request.Request.{Request}
use Rattle.circle.specs.Outcomes.{bare}
use Rattle.circle.specs.declared.refusal.Code.TheVariants.{F1}
use Rattle.hub_state.specs.declared.reply.Reply.TheVariants.{Refused}
use Rattle.hub_core.specs.Shelves.{HasFailed}
use Rattle.hub.specs.Machine.{IsStep, state_left}
use Rattle.hub.specs.Serving.{is_made}
use Rattle.hub.specs.Stops.{IsDueChange}
use Rattle.hub.specs.declared.key.Key.{Key}
use Rattle.hub_http.specs.declared.wire_fault.WireFault.{WireFault}
use Rattle.hub_http.specs.declared.serve.Served.{Served}
use Rattle.hub_http.specs.declared.serve.Served.TheVariants.{Answered, WireRefused}
use Rattle.hub_http.specs.declared.serve.ServeFault.{ServeFault}
use Rattle.hub_http.specs.declared.serve.ServeFault.TheVariants.{Truncated, ReadFailed, WriteFailed, NoMemory}
use Rattle.hub_http.specs.declared.serve.GatherFault.{GatherFault}
use Rattle.hub_http.specs.Replies.{reply_text, fault_text, fault_status}
use Rattle.hub_http.specs.Wire.{Asked, Wire}
use Rattle.hub_http.specs.declared.wire_fault.WireFault.TheVariants as fault
use Rattle.hub_http.specs.declared.serve.GatherFault.TheVariants as gather

-- ---- what was read

-- the bytes that were read ask this, or have this fault
abbrev pub HasRead : Option (List ℕ) → Option (List ℕ) → Asked → Type 0
HasRead before after asked = (bytes : List ℕ) × Consumes before after bytes × Wire bytes asked

-- the reader gave the bytes that the new list has after the old one
abbrev pub Extends : Option (List ℕ) → Option (List ℕ) → List ℕ → List ℕ → Type 0
Extends before after old new = (piece : List ℕ) × Consumes before after piece × (new ≡ old ++ piece)

-- the fault of the wire as a fault of reading a request
abbrev pub as_gather : WireFault → GatherFault
as_gather fault.NoMemory = gather.NoMemory
as_gather e = gather.Wire e

-- the result of reading is right: the bytes ask this, have this fault, or end early; a failed read or want of memory
-- always is
abbrev pub Gathers : Option (List ℕ) → Option (List ℕ) → Result (Key × Request) GatherFault → Type 0
Gathers before after (Ok found) = HasRead before after (Ok found)
Gathers before after (Err (gather.Wire e)) = HasRead before after (Err e) × (is_some (fault_status e) ≡ true)
Gathers before after (Err gather.Truncated) = HasRead before after (Err fault.Truncated) × IsAtEnd after
Gathers before after (Err gather.ReadFailed) = Unit {0}
Gathers before after (Err gather.NoMemory) = Unit {0}

-- ---- what the hub did

-- What the hub did with the request at this moment, if its store has returned what was written: one step, from whatever
-- sound state the hub had.
pub record Steps {D : Type 0} (has : D → State → Type 0) (doubts failed : D → ℕ) (may_remain : D → Option State → Type 0)
    (old : D) (now : ℤ) (asked : Key × Request) (reply : Reply) (new : D) : Type 0 where
  pub step : doubts new ≡ 0 → (s : State) → has old s → IsSound s → (left : State) ×
      IsStep s (now, asked.0, asked.1) reply left × has new left
  -- the reply says that the store failed only if it did
  pub cause : doubts new ≡ 0 → (s : State) → has old s → IsSound s → reply ≡ Refused (bare F1) →
      HasFailed (failed old) (failed new)
  -- the reply says so whenever the store failed
  pub counted : failed old < failed new → reply ≡ Refused (bare F1)
  -- after a change that was made a crash may leave what the request leaves, and nothing else
  pub durable : doubts new ≡ 0 → (s : State) → has old s → IsSound s → IsTrue (is_made reply) →
      (left : Option State) → may_remain new left ↔ (left ≡ Some (state_left s asked.0 asked.1))
  -- a crash may leave what it could have left before, or, if a change is due, what the request leaves
  pub crash : doubts new ≡ 0 → (s : State) → has old s → IsSound s → (left : Option State) →
      may_remain new left → may_remain old left ⊎ IsDueChange s (now, asked.0, asked.1) left

-- the request was answered with a reply, which is written or not; `Does reply` says that the hub answered with it
abbrev pub Replies : (Reply → Type 0) → Option (List ℕ) → Option (List ℕ) → Result Served ServeFault → Type 0
Replies Does written now_written (Ok Answered) =
    (reply : Reply) × Does reply × Appends written now_written (reply_text reply)
Replies Does written now_written (Err WriteFailed) = (reply : Reply) × Does reply
Replies Does written now_written _ = ⊥

-- ---- one connection

-- `Does asked reply` says that the hub answered the request with this reply. `Same` says that nothing was asked of the
-- hub and it is as it was.
module _ (Does : Key × Request → Reply → Type 0) (Same : Type 0) where
  -- the request that was read was answered with this reply
  abbrev pub IsAnswer : Option (List ℕ) → Option (List ℕ) → Reply → Type 0
  IsAnswer before after reply = (asked : Key × Request) × HasRead before after (Ok asked) × Does asked reply

  -- nothing was asked of the hub, or the request that was read was answered
  abbrev pub MayHaveAnswered : Option (List ℕ) → Option (List ℕ) → Type 0
  MayHaveAnswered before after = Same ⊎ ((reply : Reply) × IsAnswer before after reply)

  -- the reader before and after, the writer before and after, and the outcome of the connection
  abbrev pub Serves : Option (List ℕ) → Option (List ℕ) → Option (List ℕ) → Option (List ℕ) →
      Result Served ServeFault → Type 0
  Serves before after written now_written (Ok Answered) =
      (reply : Reply) × IsAnswer before after reply × Appends written now_written (reply_text reply)
  Serves before after written now_written (Ok (WireRefused e)) =
      HasRead before after (Err e) × (is_some (fault_status e) ≡ true) ×
      Appends written now_written (fault_text e) × Same
  Serves before after written now_written (Err Truncated) =
      HasRead before after (Err fault.Truncated) × IsAtEnd after × Keeps written now_written × Same
  Serves before after written now_written (Err ReadFailed) = Keeps written now_written × Same
  Serves before after written now_written (Err WriteFailed) = MayHaveAnswered before after
  Serves before after written now_written (Err NoMemory) = Keeps written now_written × Same
