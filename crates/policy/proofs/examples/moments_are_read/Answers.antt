use Rattle.{std.proofs.Common.refl, jiff.proofs.OnLiterals.jiff_on_literals}
use Rattle.policy.proofs.examples.moments_are_read.Goals as goal

pub returns : goal.returns
unfolding jiff_on_literals
returns c = refl
