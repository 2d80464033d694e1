use Rattle.redact.proofs.Promised.{classes-stay}
use Rattle.redact.proofs.laws.kept_classes_stay.Goals as goal

pub returns : goal.returns
returns c = classes-stay
