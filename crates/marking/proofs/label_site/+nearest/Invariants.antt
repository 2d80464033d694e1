use Rattle.std.proofs.Common.{length}
use Rattle.marking.proofs.label_site.+nearest.Given as goal

abbrev pub decreases-nearest : goal.decreases-nearest
decreases-nearest l = length l.path
