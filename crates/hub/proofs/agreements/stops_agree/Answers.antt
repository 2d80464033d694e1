use Rattle.hub.proofs.Leaving.{stops_agree}
use Rattle.hub.proofs.agreements.stops_agree.Goals as goal

pub returns : goal.returns
returns g c = stops_agree (g.Sh.Shelf.may_remain c.args._shelf.now)
