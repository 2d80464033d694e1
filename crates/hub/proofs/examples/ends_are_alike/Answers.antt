use Rattle.hub.proofs.Worlds.{ends_alike}
use Rattle.hub.proofs.examples.ends_are_alike.Goals as goal

pub returns : goal.returns
returns c = ends_alike
