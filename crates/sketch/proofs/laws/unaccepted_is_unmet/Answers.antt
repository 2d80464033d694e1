use Rattle.sketch.proofs.Judging.{unaccepted-unmet}
use Rattle.sketch.proofs.laws.unaccepted_is_unmet.Goals as goal

pub returns : goal.returns
returns c = unaccepted-unmet
