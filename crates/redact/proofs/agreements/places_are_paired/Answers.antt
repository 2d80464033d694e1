use Rattle.redact.proofs.Paired.{places-paired}
use Rattle.redact.proofs.agreements.places_are_paired.Goals as goal

pub returns : goal.returns
returns c = places-paired
