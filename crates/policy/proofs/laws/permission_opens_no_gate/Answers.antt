use Rattle.policy.proofs.Sight.{permission-opens}
use Rattle.policy.proofs.laws.permission_opens_no_gate.Goals as goal

pub returns : goal.returns
returns c = permission-opens
