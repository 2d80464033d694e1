use Rattle.std.{proofs.Common.refl, specs.Fmt.digits}
use Rattle.marking.proofs.examples.plain_lines_are_no_classes.Goals as goal

pub returns : goal.returns
unfolding digits
returns c = refl
