use Rattle.sketch.proofs.Words.{contained}
use Rattle.sketch.proofs.laws.contained_runs.Goals as goal

pub returns : goal.returns
returns c = λ base needle text test. contained base test needle text
