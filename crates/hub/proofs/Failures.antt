-- Each reply that says that the store failed was counted.
use Rattle.std.proofs.{Common.{◌≡◌, ◌≤◌, inl, inr, ℕ, ◌+◌, Bool, true, false, List, [], ◌∷◌, ◌++◌, cond, refl, sym, ◌∙◌, ap, arith}, lemmas.Bool.true≢false}
use Rattle.{std.proofs.lemmas.List.Sums.sum_by_push, circle.specs.{Outcomes.bare, declared.refusal.Code.TheVariants.F1}, hub_core.specs.Shelves.HasFailed}
use Rattle.{hub_core.specs.State.State, hub_state.specs.declared.reply.Reply.{Reply, TheVariants.Refused}, hub.proofs.Served.due_untold}
use Rattle.hub.specs.{Faults.{AreCounted, failures_told, tells_failure}, Machine.{Asked, IsStep}}

-- a reply that says so is that of a step that was given up
pub failure_alone : (s left : State) (asked : Asked) (reply : Reply) → IsStep s asked reply left → tells_failure reply ≡ true → reply ≡ Refused (bare F1)
failure_alone s left asked reply (inl answered) h = absurd (true≢false (sym h ∙ ap tells_failure answered.due ∙ due_untold s asked.0 asked.1 asked.2))
failure_alone s left asked reply (inr (inl is, same)) h = is
failure_alone s left asked reply (inr (inr is, same)) h = absurd (true≢false (sym h ∙ ap tells_failure is))

pushed : (replies : List Reply) (reply : Reply) → failures_told (replies ++ reply ∷ []) ≡ failures_told replies + cond (tells_failure reply) 1 0
pushed replies reply = sum_by_push (λ r. cond (tells_failure r) 1 0) replies reply

-- one reply more
pub counted_on : (before mid now : ℕ) (replies : List Reply) (reply : Reply) → AreCounted (failures_told replies) before mid → mid ≤ now → (tells_failure reply ≡ true → HasFailed mid now) →
    AreCounted (failures_told (replies ++ reply ∷ [])) before now
counted_on before mid now replies reply (inr last) more cause = inr (omega (arith, last, more))
counted_on before mid now replies reply (inl few) more cause = by_case (tells_failure reply) refl
  where
    by_case : (b : Bool) → tells_failure reply ≡ b → AreCounted (failures_told (replies ++ reply ∷ [])) before now
    by_case false is = inl (omega (arith, few, more, pushed replies reply, ap {B = ℕ} (λ b. cond b 1 0) is))
    by_case true is = elim (cause is) [
      | inl rose ↦ inl (omega (arith, few, rose, pushed replies reply, ap {B = ℕ} (λ b. cond b 1 0) is))
      | inr ended ↦ inr (omega (arith, ended))
    ]
