-- The bytes of replies in worlds that are alike for a person.
use Rattle.std.specs.Prelude.{◌≡◌, ◌⊎◌, ℕ, List}
use Rattle.circle.specs.Outcomes.{bare}
use Rattle.circle.specs.declared.refusal.Code.TheVariants.{F1, F2}
use Rattle.hub_core.specs.State.{State}
use Rattle.hub_state.specs.declared.reply.Reply.{Reply}
use Rattle.hub_state.specs.declared.reply.Reply.TheVariants.{Refused}
use Rattle.hub.specs.Machine.{Asked, IsStep}
use Rattle.hub_http.specs.Replies.{reply_text}

-- the bytes say that the request was given up: the store failed, or the memory didn't suffice
abbrev pub IsGivenUpText : List ℕ → Type 0
IsGivenUpText bytes = (bytes ≡ reply_text (Refused (bare F1))) ⊎ (bytes ≡ reply_text (Refused (bare F2)))

-- the same bytes, or one of the two requests was given up
abbrev pub IsWrittenAlike : List ℕ → List ℕ → Type 0
IsWrittenAlike one other = (one ≡ other) ⊎ (IsGivenUpText one ⊎ IsGivenUpText other)

-- A hub answered with this reply in one step from this state, and its content is what the step left. The reply says
-- that the store failed only if a failure was counted.
pub record HasStepped (there : State → Type 0) (fails : Type 0) (s : State) (asked : Asked) (reply : Reply) : Type 0 where
  pub left : State
  pub step : IsStep s asked reply left
  pub after : there left
  pub cause : reply ≡ Refused (bare F1) → fails
