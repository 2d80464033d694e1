use Rattle.policy.proofs.Clearances.{clearance-raised}
use Rattle.policy.proofs.laws.raised_is_cleared_for_more.Goals as goal

pub returns : goal.returns
returns c = clearance-raised
