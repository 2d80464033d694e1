use Rattle.redaction.proofs.ReadExactly.{read-exactly}
use Rattle.redaction.proofs.laws.readable_exactly.Goals as goal

pub returns : goal.returns
returns c = read-exactly
