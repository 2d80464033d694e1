use Rattle.hub.proofs.Served.{left_unmade}
use Rattle.hub.proofs.laws.unmade_leaves_all.Goals as goal

pub returns : goal.returns
returns c = left_unmade
