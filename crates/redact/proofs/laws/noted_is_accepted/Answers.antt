use Rattle.redact.proofs.MarkedTree.{accepted-outline}
use Rattle.redact.proofs.laws.noted_is_accepted.Goals as goal

pub returns : goal.returns
returns c = accepted-outline
