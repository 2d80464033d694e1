use Rattle.circle.proofs.Owners.{empty_sound}
use Rattle.circle.proofs.laws.empty_is_sound.Goals as goal

pub returns : goal.returns
returns c = empty_sound
