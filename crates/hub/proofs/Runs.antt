-- A run continues by a step.
use Rattle.std.proofs.Common.{◌≡◌, inl, inr, ℕ, ◌+◌, ◌<◌, List, [], ◌∷◌, ◌++◌, Option, Some, None, take, length, get_or, refl, sym, subst}
use Rattle.{std.proofs.lemmas.List.take_more, circle.specs.declared.directory.Person.Person, hub_core.{proofs.Kept.stays_sound, specs.Sound.IsSound}}
use Rattle.{hub_core.specs.State.State, hub_state.specs.declared.{reply.Reply.Reply, request.Request.Request}, hub.proofs.Served.caller_org}
use Rattle.hub.specs.{Machine.{Asked, IsStep, IsRun, left_by, state_left}, Replies.caller_of, declared.key.Key.Key}

pub left_sound : (s : State) (key : Key) (r : Request) → IsSound s → IsSound (state_left s key r)
left_sound s key r sound = by_caller (caller_of s key) refl
  where
    by_caller : (o : Option Person) → caller_of s key ≡ o → IsSound (left_by s o r)
    by_caller None is = sound
    by_caller (Some p) is = stays_sound s p r sound (caller_org s key p sound is)

step_sound : (s left : State) (asked : Asked) (reply : Reply) → IsSound s → IsStep s asked reply left → IsSound left
step_sound s left asked reply sound (inl answered) = subst IsSound (sym answered.aftermath) (left_sound s asked.1 asked.2 sound)
step_sound s left asked reply sound (inr up) = subst IsSound (sym up.1) sound

pub runs_sound : (s end : State) (asked : List Asked) (replies : List Reply) → IsSound s → IsRun s asked replies end → IsSound end
runs_sound s end [] [] sound run = subst IsSound (sym run) sound
runs_sound s end [] (reply ∷ replies) sound run = absurd run
runs_sound s end (asked ∷ others) [] sound run = absurd run
runs_sound s end (asked ∷ others) (reply ∷ replies) sound run = runs_sound run.0 end others replies (step_sound s run.0 asked reply sound run.1) run.2

pub run_on : (s mid end : State) (others : List Asked) (replies : List Reply) (asked : Asked) (reply : Reply) → IsRun s others replies mid → IsStep mid asked reply end → IsRun s (others ++ asked ∷ []) (replies ++ reply ∷ []) end
run_on s mid end [] [] asked reply run step = (end, subst (λ m. IsStep m asked reply end) run step, refl)
run_on s mid end [] (r ∷ replies) asked reply run step = absurd run
run_on s mid end (q ∷ others) [] asked reply run step = absurd run
run_on s mid end (q ∷ others) (r ∷ replies) asked reply run step = (run.0, run.1, run_on run.0 mid end others replies asked reply run.2 step)

-- what holds after i requests, with one step more, holds after i + 1
pub goes_on : {D : Type 0} (has : D → State → Type 0) (before after : D) (s : State) (all : List Asked) (i : ℕ) (asked : Asked) (replies : List Reply) (reply : Reply) → asked ≡ get_or all i asked → i < length all
    → IsSound s
    → (mid : State) × IsRun s (take i all) replies mid × has before mid
    → ((mid : State) → has before mid → IsSound mid → (left : State) × IsStep mid asked reply left × has after left)
    → (left : State) × IsRun s (take (i + 1) all) (replies ++ reply ∷ []) left × has after left
goes_on has before after s all i asked replies reply is low sound told steps =
    let step = steps told.0 told.2 (runs_sound s told.0 (take i all) replies sound told.1) in (
      step.0,
      subst (λ q. IsRun s q (replies ++ reply ∷ []) step.0) (sym (take_more all i asked low))
          (subst (λ q. IsRun s (take i all ++ q ∷ []) (replies ++ reply ∷ []) step.0) is (run_on s told.0 step.0 (take i all) replies asked reply told.1 step.1)),
      step.2,
    )
