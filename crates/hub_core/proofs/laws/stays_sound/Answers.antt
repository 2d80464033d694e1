use Rattle.hub_core.proofs.Kept.{stays_sound}
use Rattle.hub_core.proofs.laws.stays_sound.Goals as goal

pub returns : goal.returns
returns c = stays_sound
