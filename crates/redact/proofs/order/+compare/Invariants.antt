use Rattle.std.proofs.Common.{length}
use Rattle.redact.proofs.order.+compare.Given as goal

abbrev pub decreases-compare : goal.decreases-compare
decreases-compare l = length l.one.now
