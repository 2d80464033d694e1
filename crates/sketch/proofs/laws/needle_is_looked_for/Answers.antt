use Rattle.sketch.proofs.Judging.{looked-for}
use Rattle.sketch.proofs.laws.needle_is_looked_for.Goals as goal

pub returns : goal.returns
returns c = looked-for
