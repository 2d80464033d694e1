use Rattle.std.{proofs.Common.refl, specs.Fmt.digits}
use Rattle.marking.proofs.examples.nearest_label_holds.Goals as goal

pub returns : goal.returns
unfolding digits
returns c = refl
