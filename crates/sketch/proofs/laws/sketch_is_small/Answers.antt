use Rattle.sketch.proofs.Judging.{sketch-small}
use Rattle.sketch.proofs.laws.sketch_is_small.Goals as goal

pub returns : goal.returns
returns c = sketch-small
