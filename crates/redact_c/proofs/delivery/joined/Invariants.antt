use Rattle.{std.{proofs.Common.{◌≡◌, take}, specs.List.flat_map}, redaction.specs.Answers.texts_by, redact_c.specs.Delivery.text_of}
use Rattle.redact_c.proofs.delivery.joined.Given as goal

abbrev pub invariant-loop-answer : goal.invariant-loop-answer
invariant-loop-answer l = l.texts.items ≡ flat_map text_of (texts_by (take l.answer-index l.answers))
