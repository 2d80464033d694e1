use Rattle.circle.proofs.Staying.{suspended_after}
use Rattle.circle.proofs.laws.suspended_stays.Goals as goal

pub returns : goal.returns
returns c = suspended_after
