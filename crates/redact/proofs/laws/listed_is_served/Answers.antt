use Rattle.redact.proofs.Promised.{listed-served}
use Rattle.redact.proofs.laws.listed_is_served.Goals as goal

pub returns : goal.returns
returns c = listed-served
