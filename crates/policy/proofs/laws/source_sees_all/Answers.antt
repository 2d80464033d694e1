use Rattle.policy.proofs.Sight.{source-sees}
use Rattle.policy.proofs.laws.source_sees_all.Goals as goal

pub returns : goal.returns
returns c = source-sees
