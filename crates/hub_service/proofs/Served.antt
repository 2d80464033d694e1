-- One connection after another is one run.
use Rattle.std.proofs.{Common.{◌≡◌, inl, inr, ℕ, ◌+◌, ℤ, List, [], ◌∷◌, ◌++◌, Option, Result, Ok, Err, refl, sym, subst, arith}, lemmas.List.length-append}
use Rattle.{hub_core.specs.State.State, hub_state.specs.declared.{reply.Reply.Reply, request.Request.Request}, hub.proofs.Leaving.{in_turn_left, left_in_turn}}
use Rattle.hub.{proofs.{Runs.runs_sound, Stopped.{left_behind_one, left_joined, left_more}}, specs.{Machine.{Asked, IsRun}, declared.key.Key.Key}}
use Rattle.{hub.specs.inner.InTurn.MayBeLeftInTurn, hub_http.specs.{Serving.{Steps, Serves, MayHaveAnswered}, declared.serve.ServeFault.ServeFault}}
use Rattle.hub_http.specs.declared.serve.{ServeFault.TheVariants.{Truncated, ReadFailed, WriteFailed, NoMemory}, Served.{Served, TheVariants.Answered}}
use Rattle.{hub_http.specs.declared.serve.Served.TheVariants.WireRefused, hub_service.specs.Serving.HasRun}

-- nothing was asked
pub none_asked : {D : Type 0} (has : D → State → Type 0) (may_remain : D → Option State → Type 0) (old new : D) (most : ℕ) → new ≡ old → HasRun has may_remain old new most
none_asked has may_remain old new most same = λ s here sound. ([], [], s, omega arith, refl, subst (λ d. has d s) (sym same) here, λ left there. left_in_turn (may_remain old) s [] [] left (subst (λ d. may_remain d left) same there))

one_asked : {D : Type 0} (has : D → State → Type 0) (doubts failed : D → ℕ) (may_remain : D → Option State → Type 0) (old new : D) (now : ℤ) (asked : Key × Request) (reply : Reply)
    → Steps has doubts failed may_remain old now asked reply new → doubts new ≡ 0 → HasRun has may_remain old new 1
one_asked has doubts failed may_remain old new now asked reply steps clean = λ s here sound.
    let step = steps.step clean s here sound in
    let one : Asked = (now, asked.0, asked.1) in
    (one ∷ [], reply ∷ [], step.0, omega arith, (step.0, step.1, refl), step.2, λ left there. left_in_turn (may_remain old) s (one ∷ []) (reply ∷ []) left (left_behind_one (may_remain old) (may_remain new) s step.0 one reply step.1 (steps.durable clean s here sound) (steps.crash clean s here sound) left there))

-- one connection makes at most one request
pub serves_run : {D : Type 0} (has : D → State → Type 0) (doubts failed : D → ℕ) (may_remain : D → Option State → Type 0) (old new : D) (now : ℤ)
    (before after written now_written : Option (List ℕ)) (result : Result Served ServeFault)
    → Serves (λ asked reply. Steps has doubts failed may_remain old now asked reply new) (new ≡ old) before after written now_written result
    → doubts new ≡ 0 → HasRun has may_remain old new 1
serves_run has doubts failed may_remain old new now before after written now_written result served clean = by_result result served
  where
    maybe : MayHaveAnswered (λ asked reply. Steps has doubts failed may_remain old now asked reply new) (new ≡ old) before after → HasRun has may_remain old new 1
    maybe (inl same) = none_asked has may_remain old new 1 same
    maybe (inr told) = one_asked has doubts failed may_remain old new now told.1.0 told.0 told.1.2 clean

    by_result : (r : Result Served ServeFault) → Serves (λ asked reply. Steps has doubts failed may_remain old now asked reply new) (new ≡ old) before after written now_written r → HasRun has may_remain old new 1
    by_result (Ok Answered) told = one_asked has doubts failed may_remain old new now told.1.0 told.0 told.1.2 clean
    by_result (Ok (WireRefused e)) told = none_asked has may_remain old new 1 told.3
    by_result (Err Truncated) told = none_asked has may_remain old new 1 told.3
    by_result (Err ReadFailed) told = none_asked has may_remain old new 1 told.1
    by_result (Err WriteFailed) told = maybe told
    by_result (Err NoMemory) told = none_asked has may_remain old new 1 told.1

-- ---- a run, and a run

joined : (s mid end : State) (first second : List Asked) (told more : List Reply) → IsRun s first told mid → IsRun mid second more end → IsRun s (first ++ second) (told ++ more) end
joined s mid end [] second [] more run next = subst (λ m. IsRun m second more end) run next
joined s mid end [] second (r ∷ told) more run next = absurd run
joined s mid end (q ∷ first) second [] more run next = absurd run
joined s mid end (q ∷ first) second (r ∷ told) more run next = (run.0, run.1, joined run.0 mid end first second told more run.2 next)

pub runs_on : {D : Type 0} (has : D → State → Type 0) (may_remain : D → Option State → Type 0) (old mid new : D) (m n : ℕ) → HasRun has may_remain old mid m → HasRun has may_remain mid new n → HasRun has may_remain old new (m + n)
runs_on has may_remain old mid new m n first second = λ s here sound.
    let one = first s here sound in
    let two = second one.2 one.5 (runs_sound s one.2 one.0 one.1 sound one.4) in (
      one.0 ++ two.0,
      one.1 ++ two.1,
      two.2,
      omega (arith, length-append one.0 two.0),
      joined s one.2 two.2 one.0 two.0 one.1 two.1 one.4 two.4,
      two.5,
      λ left there.
          let first : (l : Option State) → may_remain mid l → MayBeLeftInTurn (may_remain old) s one.0 one.1 l = λ l k. in_turn_left (may_remain old) s one.2 one.0 one.1 l one.4 (one.6 l k) in
          let second = in_turn_left (may_remain mid) one.2 two.2 two.0 two.1 left two.4 (two.6 left there) in
          left_in_turn (may_remain old) s (one.0 ++ two.0) (one.1 ++ two.1) left
          (left_joined (may_remain old) s one.2 one.0 two.0 one.1 two.1 left one.4 (left_more (may_remain mid) (MayBeLeftInTurn (may_remain old) s one.0 one.1) one.2 two.0 two.1 first left second)),
    )
