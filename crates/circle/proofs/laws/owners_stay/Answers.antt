use Rattle.circle.proofs.Owners.{owners_after}
use Rattle.circle.proofs.laws.owners_stay.Goals as goal

pub returns : goal.returns
returns c = owners_after
