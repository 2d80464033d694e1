use Rattle.hub.proofs.OtherEnded.{others-ended-unfelt}
use Rattle.hub.proofs.laws.others_ended_permissions_are_not_felt.Goals as goal

pub returns : goal.returns
returns c = others-ended-unfelt
