-- The reply that is due in two worlds that are alike.
use Rattle.{std.{proofs.Common.{inl, inr}, specs.Prelude.ℤ}, circle.specs.declared.directory.Account.Account, hub.proofs.EqualBut.hidden_exchanged}
use Rattle.hub.proofs.{OtherLines.{plain-step, hidden-step}, OtherRows.rows-step, OtherUnseen.unseen-told, SharedSteps.{plain-shared, hidden-shared}}
use Rattle.hub.{proofs.{SharedSteps.{unseen-shared, other-rows-shared}, ToldSame.{StepsTellSame, chain-same}}, specs.Alike.AlikeIsAnsweredAlike}

steps : (now : ℤ) (a : Account) → StepsTellSame now a
steps now a s t ss st there (inl h) = let one = plain-step now a s t ss st there h in (one.0, plain-shared now a s t h, one.1)
steps now a s t ss st there (inr (inl h)) =
    let other = hidden_exchanged now a s t ss st h in
    let one = hidden-step now a s t ss st there other in (one.0, hidden-shared now a s t other, one.1)
steps now a s t ss st there (inr (inr (inl h))) = let one = unseen-told now a s t ss st there h in (one.0, unseen-shared now a s t h, one.1)
steps now a s t ss st there (inr (inr (inr h))) = let one = rows-step now a s t ss st there h in (one.0, other-rows-shared now a s t h, one.1)

pub answered-alike : AlikeIsAnsweredAlike
answered-alike now a s t request h k = chain-same now a (steps now a) request k s h.between t h.sound h.there h.chain
