use Rattle.hub_core.proofs.InPlace.{grants_in_place_meet_no_limit}
use Rattle.hub_core.proofs.laws.grants_in_place_meet_no_limit.Goals as goal

pub returns : goal.returns
returns c = grants_in_place_meet_no_limit
