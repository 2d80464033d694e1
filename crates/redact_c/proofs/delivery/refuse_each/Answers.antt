use Rattle.{std.proofs.Common.arith, redact_c.proofs.Several.refuse-step}
use Rattle.redact_c.proofs.delivery.refuse_each.Goals as goal

pub loop-one-preserved : goal.loop-one-preserved
loop-one-preserved c = refuse-step _ _ _ _ _ _ (omega arith) c.loop-one.invariant c.refuse.ensures
