use Rattle.std.proofs.Common.{length}
use Rattle.redact.proofs.gate_refusals.+is_at.Given as goal

abbrev pub decreases-is_at : goal.decreases-is_at
decreases-is_at l = length l.steps.now
