-- The bytes of replies in worlds that are alike for a person.
use Rattle.{std.proofs.Common.{◌≡◌, inl, inr, true, ℤ, sym, ◌∙◌, ap}, circle.specs.declared.directory.Account.Account, hub_core.specs.State.State}
use Rattle.{hub_state.specs.declared.{reply.Reply.Reply, request.Request.Request}, hub.{proofs.AnsweredAlike.answered-alike, specs.Alike.IsAlike}}
use Rattle.hub.specs.{Alike.is_answered_alike, Machine.{IsGivenUp, IsStep}, Replies.reply_of, declared.key.Key.{Key, TheVariants.Digest}}
use Rattle.hub_http.specs.{Alike.{IsGivenUpText, IsWrittenAlike}, Replies.reply_text}

given-up-text : (r : Reply) → IsGivenUp r → IsGivenUpText (reply_text r)
given-up-text r (inl h) = inl (ap reply_text h)
given-up-text r (inr h) = inr (ap reply_text h)

module _ (now : ℤ) (a : Account) (s t u v : State) (key : Key) (request : Request) (one other : Reply) where
  pub written-alike : IsAlike now a s t → key ≡ Digest a.key → is_answered_alike request ≡ true → IsStep s (now, key, request) one u → IsStep t (now, key, request) other v →
      IsWrittenAlike (reply_text one) (reply_text other)
  written-alike alike known told (inr given) second = inr (inl (given-up-text one given.0))
  written-alike alike known told (inl x) (inr given) = inr (inr (given-up-text other given.0))
  written-alike alike known told (inl x) (inl y) =
      inl (ap reply_text (x.due ∙ ap (λ k. reply_of s now k request) known ∙ answered-alike now a s t request alike told ∙ sym (ap (λ k. reply_of t now k request) known) ∙ sym y.due))
