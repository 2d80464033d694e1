use Rattle.sketch.proofs.Shown.{source-shown}
use Rattle.sketch.proofs.laws.source_is_shown.Goals as goal

pub returns : goal.returns
returns c = source-shown
