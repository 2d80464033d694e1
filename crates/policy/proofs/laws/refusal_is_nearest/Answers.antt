use Rattle.policy.proofs.Refusals.{refusal-nearest}
use Rattle.policy.proofs.laws.refusal_is_nearest.Goals as goal

pub returns : goal.returns
returns c = refusal-nearest
