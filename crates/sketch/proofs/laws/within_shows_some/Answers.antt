use Rattle.sketch.proofs.Shown.{within-shows}
use Rattle.sketch.proofs.laws.within_shows_some.Goals as goal

pub returns : goal.returns
returns c = within-shows
