use Rattle.sketch.proofs.Words.{found-cleared}
use Rattle.sketch.proofs.laws.found_is_cleared.Goals as goal

pub returns : goal.returns
returns c = found-cleared
