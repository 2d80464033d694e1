use Rattle.{std.proofs.Common.arith, redaction.proofs.TreeIncidents.low_steps}
use Rattle.redaction.proofs.limits.+depth.Goals as goal

pub is_low-loop-name-preserved : goal.is_low-loop-name-preserved
is_low-loop-name-preserved t c = grind (arith, low_steps)

pub is_low-returns-then-not-is_member_low : goal.is_low-returns-then-not-is_member_low
is_low-returns-then-not-is_member_low t c = grind (arith, low_steps)
