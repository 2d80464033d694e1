use Rattle.{std.proofs.Common.{◌≡◌, ◌++◌, take, drop}, redaction.specs.Answers.texts_by, redact_c.specs.Delivery.told_each}
use Rattle.redact_c.proofs.delivery.tell_each.Given as goal

abbrev pub invariant-loop-i : goal.invariant-loop-i
invariant-loop-i l =
    l.asked ≡ told_each (take l.i l.initial.asked) (texts_by (take l.i l.answers)) ++ drop l.i l.initial.asked
