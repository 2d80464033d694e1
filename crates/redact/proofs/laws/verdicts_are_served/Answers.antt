use Rattle.redact.proofs.Promised.{verdicts-served}
use Rattle.redact.proofs.laws.verdicts_are_served.Goals as goal

pub returns : goal.returns
returns c = verdicts-served
