use Rattle.circle.proofs.Others.{apart_after}
use Rattle.circle.proofs.laws.organisations_keep_apart.Goals as goal

pub returns : goal.returns
returns c = apart_after
