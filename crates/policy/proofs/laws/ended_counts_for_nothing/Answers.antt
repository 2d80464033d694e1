use Rattle.policy.proofs.Moments.{ended-counts}
use Rattle.policy.proofs.laws.ended_counts_for_nothing.Goals as goal

pub returns : goal.returns
returns c = ended-counts
