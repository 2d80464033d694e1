-- What may be left after a list of requests, and after one request more.
use Rattle.std.proofs.Common.{◌≡◌, ◌⊎◌, ◌↔◌, inl, inr, ℕ, ◌+◌, ◌<◌, Bool, true, false, List, [], ◌∷◌, ◌++◌, cond, Option, Some, take, length, get_or, refl, sym}
use Rattle.{std.{proofs.{Common.{◌∙◌, ap, subst}, lemmas.{Bool.true≢false, List.take_more}}, specs.Prelude.IsTrue}, hub_core.specs.State.State}
use Rattle.{hub_state.specs.declared.reply.Reply.Reply, hub.{proofs.Served.left_unmade, specs.Machine.{Asked, IsGivenUp, IsStep, IsRun, state_left}}}
use Rattle.hub.specs.{Serving.is_made, Stops.{IsDueChange, content_after, is_change_due}, inner.InTurn.{MayBeLeftBy, MayBeLeftInTurn}}

given_up_unmade : (reply : Reply) → IsGivenUp reply → is_made reply ≡ false
given_up_unmade reply (inl is) = ap is_made is
given_up_unmade reply (inr is) = ap is_made is

-- the state after a step is the content after it
pub step_content : (s left : State) (asked : Asked) (reply : Reply) → IsStep s asked reply left → left ≡ content_after s asked reply
step_content s left asked reply step = by_case (is_made reply) refl step
  where
    by_case : (b : Bool) → is_made reply ≡ b → IsStep s asked reply left → left ≡ content_after s asked reply
    by_case false is made = left_unmade s left asked reply made is ∙ sym (ap (λ b. cond b (state_left s asked.1 asked.2) s) is)
    by_case true is (inl answered) = answered.aftermath ∙ sym (ap (λ b. cond b (state_left s asked.1 asked.2) s) is)
    by_case true is (inr up) = absurd (true≢false (sym is ∙ given_up_unmade reply up.0))

-- if the reply says that a change was made, one was due
pub made_due : (s left : State) (asked : Asked) (reply : Reply) → IsStep s asked reply left → is_made reply ≡ true → is_change_due s asked ≡ true
made_due s left asked reply (inl answered) made = sym (ap is_made answered.due) ∙ made
made_due s left asked reply (inr up) made = absurd (true≢false (sym made ∙ given_up_unmade reply up.0))

-- one request more
left_on : (Before : Option State → Type 0) (s mid : State) (all : List Asked) (replies : List Reply) (asked : Asked) (reply : Reply) (left : Option State) → IsRun s all replies mid
    → MayBeLeftBy (MayBeLeftInTurn Before s all replies) mid asked reply left → MayBeLeftInTurn Before s (all ++ asked ∷ []) (replies ++ reply ∷ []) left
left_on Before s mid [] [] asked reply left run may = subst (λ u. MayBeLeftBy Before u asked reply left) run may
left_on Before s mid [] (r ∷ replies) asked reply left run may = absurd run
left_on Before s mid (q ∷ others) [] asked reply left run may = absurd run
left_on Before s mid (q ∷ others) (r ∷ replies) asked reply left run may =
    left_on (MayBeLeftBy Before s q r) (content_after s q r) mid others replies asked reply left (subst (λ u. IsRun u others replies mid) (step_content s run.0 q r run.1) run.2) may

-- What may be left after one request, by what could have been left before it.
pub left_behind_one : (Before After : Option State → Type 0) (s end : State) (asked : Asked) (reply : Reply) → IsStep s asked reply end
    → (IsTrue (is_made reply) → (left : Option State) → After left ↔ (left ≡ Some (state_left s asked.1 asked.2)))
    → ((left : Option State) → After left → Before left ⊎ IsDueChange s asked left)
    → (left : Option State) → After left → MayBeLeftBy Before s asked reply left
left_behind_one Before After s end asked reply step durable crash left may = by_case (is_made reply) refl
  where
    by_case : (b : Bool) → is_made reply ≡ b → MayBeLeftBy Before s asked reply left
    by_case true made = inr (made_due s end asked reply step made, (durable made left).0 may)
    by_case false unmade = elim (crash left may) [ inl there ↦ inl (there, unmade) | inr due ↦ inr due ]

-- what holds after i requests, with what one leaves, holds after i + 1
pub stops_on : {D : Type 0} (may_remain : D → Option State → Type 0) (old before after : D) (s mid end : State) (all : List Asked) (i : ℕ) (asked : Asked) (replies : List Reply) (reply : Reply) → asked ≡ get_or all i asked → i < length all
    → IsRun s (take i all) replies mid
    → IsStep mid asked reply end
    → ((left : Option State) → may_remain before left → MayBeLeftInTurn (may_remain old) s (take i all) replies left)
    → (IsTrue (is_made reply) → (left : Option State) → may_remain after left ↔ (left ≡ Some (state_left mid asked.1 asked.2)))
    → ((left : Option State) → may_remain after left → may_remain before left ⊎ IsDueChange mid asked left)
    → (left : Option State) → may_remain after left → MayBeLeftInTurn (may_remain old) s (take (i + 1) all) (replies ++ reply ∷ []) left
stops_on may_remain old before after s mid end all i asked replies reply is low run step earlier durable crash left may =
    subst (λ q. MayBeLeftInTurn (may_remain old) s q (replies ++ reply ∷ []) left) (sym (take_more all i asked low))
    (subst (λ q. MayBeLeftInTurn (may_remain old) s (take i all ++ q ∷ []) (replies ++ reply ∷ []) left) is (left_on (may_remain old) s mid (take i all) replies asked reply left run
    (left_behind_one (MayBeLeftInTurn (may_remain old) s (take i all) replies) (may_remain after) mid end asked reply step durable (λ l there. elim (crash l there) [ inl kept ↦ inl (earlier l kept) | inr due ↦ inr due ]) left may)))

-- ---- a list after a list

-- if more could have been left before, more may be left after
pub left_more : (Before More : Option State → Type 0) (s : State) (all : List Asked) (replies : List Reply) → ((left : Option State) → Before left → More left)
    → (left : Option State) → MayBeLeftInTurn Before s all replies left → MayBeLeftInTurn More s all replies left
left_more Before More s [] [] on left may = on left may
left_more Before More s [] (r ∷ replies) on left may = absurd may
left_more Before More s (q ∷ others) [] on left may = absurd may
left_more Before More s (q ∷ others) (r ∷ replies) on left may =
    left_more (MayBeLeftBy Before s q r) (MayBeLeftBy More s q r) (content_after s q r) others replies (λ l by. elim by [ inl both ↦ inl (on l both.0, both.1) | inr due ↦ inr due ]) left may

-- what may be left after both lists is what may be left after the second, by what may be left after the first
pub left_joined : (Before : Option State → Type 0) (s mid : State) (first second : List Asked) (told more : List Reply) (left : Option State) → IsRun s first told mid
    → MayBeLeftInTurn (MayBeLeftInTurn Before s first told) mid second more left → MayBeLeftInTurn Before s (first ++ second) (told ++ more) left
left_joined Before s mid [] second [] more left run may =
    subst (λ u. MayBeLeftInTurn Before u second more left) run (left_more (MayBeLeftInTurn Before s [] []) Before mid second more (λ l there. there) left may)
left_joined Before s mid [] second (r ∷ told) more left run may = absurd run
left_joined Before s mid (q ∷ first) second [] more left run may = absurd run
left_joined Before s mid (q ∷ first) second (r ∷ told) more left run may =
    left_joined (MayBeLeftBy Before s q r) (content_after s q r) mid first second told more left (subst (λ u. IsRun u first told mid) (step_content s run.0 q r run.1) run.2) may
