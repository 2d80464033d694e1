use Rattle.hub.proofs.StopExample.{stops_computed}
use Rattle.hub.proofs.examples.stops_are_computed.Goals as goal

pub returns : goal.returns
returns c = stops_computed
