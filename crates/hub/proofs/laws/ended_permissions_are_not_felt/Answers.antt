use Rattle.hub.proofs.OtherEnded.{ended-unfelt}
use Rattle.hub.proofs.laws.ended_permissions_are_not_felt.Goals as goal

pub returns : goal.returns
returns c = ended-unfelt
