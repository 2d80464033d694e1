use Rattle.circle.proofs.Growth.{nothing_vanishes}
use Rattle.circle.proofs.laws.nothing_vanishes.Goals as goal

pub returns : goal.returns
returns c = nothing_vanishes
