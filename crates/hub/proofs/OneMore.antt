-- One request more is answered.
use Rattle.std.{proofs.{Common.{◌≡◌, ℕ, ◌+◌, ◌<◌, List, [], ◌∷◌, ◌++◌, take, length, get_or, refl, sym, subst}, lemmas.List.take_more}, specs.Prelude.Option}
use Rattle.{hub_core.specs.State.State, hub_state.specs.declared.reply.Reply.Reply, hub.specs.{Machine.Asked, OneByOne.{AreAnswers, IsOneAnswer}}}

module _ {D : Type 0} (has : D → State → Type 0) (doubts failed : D → ℕ) (may_remain : D → Option State → Type 0) where
  answers_more : (old mid new : D) (all : List Asked) (replies : List Reply) (asked : Asked) (reply : Reply) → AreAnswers has doubts failed may_remain old all replies mid → IsOneAnswer has doubts failed may_remain mid asked reply new
      → AreAnswers has doubts failed may_remain old (all ++ asked ∷ []) (replies ++ reply ∷ []) new
  answers_more old mid new [] [] asked reply same one = (new, subst (λ d. IsOneAnswer has doubts failed may_remain d asked reply new) same one, refl)
  answers_more old mid new [] (r ∷ replies) asked reply all one = absurd all
  answers_more old mid new (q ∷ others) [] asked reply all one = absurd all
  answers_more old mid new (q ∷ others) (r ∷ replies) asked reply all one = (all.0, all.1, answers_more all.0 mid new others replies asked reply all.2 one)

  -- what holds after i requests, with one answer more, holds after i + 1
  pub answers_on : (old before after : D) (all : List Asked) (i : ℕ) (asked : Asked) (replies : List Reply) (reply : Reply) → asked ≡ get_or all i asked → i < length all
      → AreAnswers has doubts failed may_remain old (take i all) replies before
      → IsOneAnswer has doubts failed may_remain before asked reply after
      → AreAnswers has doubts failed may_remain old (take (i + 1) all) (replies ++ reply ∷ []) after
  answers_on old before after all i asked replies reply is low earlier one =
      subst (λ q. AreAnswers has doubts failed may_remain old q (replies ++ reply ∷ []) after) (sym (take_more all i asked low))
      (subst (λ q. AreAnswers has doubts failed may_remain old (take i all ++ q ∷ []) (replies ++ reply ∷ []) after) is (answers_more old before after (take i all) replies asked reply earlier one))
