use Rattle.redact.proofs.InOrder.{order-lists}
use Rattle.redact.proofs.laws.withheld_is_listed.Goals as goal

pub returns : goal.returns
returns c = order-lists
