use Rattle.std.{proofs.Common.refl, specs.Fmt.digits}
use Rattle.marking.proofs.examples.unmarked_is_private.Goals as goal

pub returns : goal.returns
unfolding digits
returns c = refl
