use Rattle.{std.proofs.Common.take, redact.specs.inner.Left.Tells}
use Rattle.redact.proofs.pass.tell.Given as goal

abbrev pub invariant-loop-rule : goal.invariant-loop-rule
invariant-loop-rule l = Tells l.initial.state l.state (take l.rule-index l.rules)
