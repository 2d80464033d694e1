use Rattle.hub_core.proofs.Others.{replaces_take_permissions_out}
use Rattle.hub_core.proofs.laws.replaces_take_permissions_out.Goals as goal

pub returns : goal.returns
returns c = replaces_take_permissions_out
