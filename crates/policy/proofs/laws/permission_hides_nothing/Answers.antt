use Rattle.policy.proofs.Sight.{permission-hides}
use Rattle.policy.proofs.laws.permission_hides_nothing.Goals as goal

pub returns : goal.returns
returns c = permission-hides
