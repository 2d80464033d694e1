use Rattle.policy.proofs.Sight.{visible-raised}
use Rattle.policy.proofs.laws.raised_sees_no_less.Goals as goal

pub returns : goal.returns
returns c = visible-raised
