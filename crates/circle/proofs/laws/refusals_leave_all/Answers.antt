use Rattle.circle.proofs.Staying.{leaves_all}
use Rattle.circle.proofs.laws.refusals_leave_all.Goals as goal

pub returns : goal.returns
returns c = leaves_all
