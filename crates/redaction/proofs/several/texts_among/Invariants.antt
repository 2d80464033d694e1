use Rattle.{std.{proofs.Common.{◌≡◌, ℕ, List, map, take}, specs.Borrow.Bor}, redaction.specs.{Answers.texts_by, inner.Among.text_among}}
use Rattle.redaction.proofs.several.texts_among.Given as goal

abbrev pub invariant-loop-description : goal.invariant-loop-description
invariant-loop-description l =
    texts_by l.answers.items ≡ map (λ (d : Bor (List ℕ)). text_among l.documents d.now) (take l.description-index l.descriptions)
