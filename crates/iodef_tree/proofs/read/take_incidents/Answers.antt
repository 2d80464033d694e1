use Rattle.{std.proofs.Common.arith, iodef_tree.proofs.Steps.take_incidents_steps}
use Rattle.iodef_tree.proofs.read.take_incidents.Goals as goal

pub returns-in_default-2 : goal.returns-in_default-2
returns-in_default-2 c = grind (arith, take_incidents_steps)

pub returns-in-Some-array_in : goal.returns-in-Some-array_in
returns-in-Some-array_in c = grind (arith, take_incidents_steps)

pub returns-in-None : goal.returns-in-None
returns-in-None c = grind (arith, take_incidents_steps)
