use Rattle.redact.proofs.Promised.{found-listed}
use Rattle.redact.proofs.laws.found_is_listed.Goals as goal

pub returns : goal.returns
returns c = found-listed
