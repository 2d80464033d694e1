use Rattle.policy.proofs.Sight.{visible-passes}
use Rattle.policy.proofs.laws.visible_passes_gates.Goals as goal

pub returns : goal.returns
returns c = visible-passes
