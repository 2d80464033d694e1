use Rattle.{std.proofs.Common.arith, redact_c.proofs.Several.tell-step}
use Rattle.redact_c.proofs.delivery.tell_each.Goals as goal

pub loop-i-preserved : goal.loop-i-preserved
loop-i-preserved c = tell-step _ _ _ _ _ _ _ (omega arith) c.requires c.loop-i.invariant c.tell.ensures c.index-answers-i.is
