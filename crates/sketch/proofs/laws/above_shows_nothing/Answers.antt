use Rattle.sketch.proofs.Shown.{above-hides}
use Rattle.sketch.proofs.laws.above_shows_nothing.Goals as goal

pub returns : goal.returns
returns c = above-hides
