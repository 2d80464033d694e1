use Rattle.sketch.proofs.Words.{found-held}
use Rattle.sketch.proofs.laws.found_is_held.Goals as goal

pub returns : goal.returns
returns c = found-held
