use Rattle.policy.proofs.Moments.{endless-any-moment}
use Rattle.policy.proofs.laws.endless_at_any_moment.Goals as goal

pub returns : goal.returns
returns c = endless-any-moment
