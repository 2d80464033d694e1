use Rattle.hub.proofs.AnsweredAlike.{answered-alike}
use Rattle.hub.proofs.laws.alike_is_answered_alike.Goals as goal

pub returns : goal.returns
returns c = answered-alike
