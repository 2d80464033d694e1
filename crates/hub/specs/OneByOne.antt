-- What requests answered one by one leave of a shelf.
use Rattle.std.specs.Prelude.{◌≡◌, ◌⊎◌, ◌<◌, ◌≤◌, ◌↔◌, ℕ, false, List, [], ◌∷◌, Option, Some, IsTrue}
use Rattle.circle.specs.Outcomes.{bare}
use Rattle.circle.specs.declared.refusal.Code.TheVariants.{F1}
use Rattle.hub_core.specs.State.{State}
use Rattle.hub_core.specs.Sound.{IsSound}
use Rattle.hub_core.specs.Shelves.{HasFailed, KeepsContent}
use Rattle.hub_state.specs.declared.reply.Reply.{Reply}
use Rattle.hub_state.specs.declared.reply.Reply.TheVariants.{Refused}
use Rattle.hub.specs.Machine.{Asked, IsStep, state_left}
use Rattle.hub.specs.Serving.{is_made}
use Rattle.hub.specs.Stops.{IsDueChange}

module _ {D : Type 0} (has : D → State → Type 0) (doubts failed : D → ℕ) (may_remain : D → Option State → Type 0) where
  -- One request with its reply, and the shelf before and after it: what `Hub::answer` promises of them, clause by
  -- clause.
  pub record IsOneAnswer (old : D) (asked : Asked) (reply : Reply) (new : D) : Type 0 where
    pub kept : is_made reply ≡ false → KeepsContent has doubts failed may_remain old new
    pub step : doubts new ≡ 0 → (s : State) → has old s → IsSound s →
        (left : State) × IsStep s asked reply left × has new left
    -- the reply says that the store failed only if a failure was counted in this step
    pub cause : doubts new ≡ 0 → (s : State) → has old s → IsSound s → reply ≡ Refused (bare F1) →
        HasFailed (failed old) (failed new)
    -- a step in which a failure was counted says so
    pub counted : failed old < failed new → reply ≡ Refused (bare F1)
    pub durable : doubts new ≡ 0 → (s : State) → has old s → IsSound s → IsTrue (is_made reply) →
        (left : Option State) → may_remain new left ↔ (left ≡ Some (state_left s asked.1 asked.2))
    pub crash : doubts new ≡ 0 → (s : State) → has old s → IsSound s → (left : Option State) →
        may_remain new left → may_remain old left ⊎ IsDueChange s asked left
    pub later : failed old ≤ failed new
    pub doubt : doubts old ≤ doubts new

  -- a reply to each request, each from the shelf that the one before left
  abbrev pub AreAnswers : D → List Asked → List Reply → D → Type 0
  AreAnswers old [] [] new = new ≡ old
  AreAnswers old (asked ∷ others) (reply ∷ replies) new =
      (between : D) × IsOneAnswer old asked reply between × AreAnswers between others replies new
  AreAnswers old [] (reply ∷ replies) new = ⊥
  AreAnswers old (asked ∷ others) [] new = ⊥
