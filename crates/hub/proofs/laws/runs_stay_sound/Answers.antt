use Rattle.hub.proofs.Runs.{runs_sound}
use Rattle.hub.proofs.laws.runs_stay_sound.Goals as goal

pub returns : goal.returns
returns c = λ s end asked replies sound run. runs_sound s end asked replies sound run
