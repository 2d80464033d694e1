use Rattle.hub.proofs.Worlds.{steps_join}
use Rattle.hub.proofs.examples.steps_join.Goals as goal

pub returns : goal.returns
returns c = steps_join
