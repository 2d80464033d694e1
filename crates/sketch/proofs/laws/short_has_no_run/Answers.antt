use Rattle.sketch.proofs.Judging.{short-runs}
use Rattle.sketch.proofs.laws.short_has_no_run.Goals as goal

pub returns : goal.returns
returns c = short-runs
