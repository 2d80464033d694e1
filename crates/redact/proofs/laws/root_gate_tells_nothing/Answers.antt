use Rattle.redact.proofs.Shut.{root-tells-nothing}
use Rattle.redact.proofs.laws.root_gate_tells_nothing.Goals as goal

pub returns : goal.returns
returns c = root-tells-nothing
