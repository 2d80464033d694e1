use Rattle.hub.proofs.EqualBut.{hidden_agree}
use Rattle.hub.proofs.agreements.hidden_classes_agree.Goals as goal

pub returns : goal.returns
returns c = hidden_agree
