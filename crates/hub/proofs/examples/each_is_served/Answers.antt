use Rattle.hub.proofs.Worlds.{each_served}
use Rattle.hub.proofs.examples.each_is_served.Goals as goal

pub returns : goal.returns
returns c = each_served
