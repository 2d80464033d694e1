use Rattle.policy.proofs.Moments.{later-sees}
use Rattle.policy.proofs.laws.later_sees_no_more.Goals as goal

pub returns : goal.returns
returns c = later-sees
