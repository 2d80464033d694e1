use Rattle.policy.proofs.Clearances.{clearance-strictest}
use Rattle.policy.proofs.laws.clearance_is_strictest.Goals as goal

pub returns : goal.returns
returns c = clearance-strictest
