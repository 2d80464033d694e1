use Rattle.hub.proofs.ShownServed.{shown-served}
use Rattle.hub.proofs.laws.shown_is_served.Goals as goal

pub returns : goal.returns
returns c = shown-served
