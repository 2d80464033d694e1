use Rattle.sketch.proofs.Shown.{shut-hides}
use Rattle.sketch.proofs.laws.shut_shows_nothing.Goals as goal

pub returns : goal.returns
returns c = shut-hides
