use Rattle.redaction.proofs.ToldRead.{told-read}
use Rattle.redaction.proofs.laws.excerpts_read_exactly.Goals as goal

pub returns : goal.returns
returns c = told-read
