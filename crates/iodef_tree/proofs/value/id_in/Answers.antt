use Rattle.{std.proofs.Common.arith, iodef_tree.proofs.Steps.id_in_steps}
use Rattle.iodef_tree.proofs.value.id_in.Goals as goal

pub returns-clause-found : goal.returns-clause-found
returns-clause-found c = grind (arith, id_in_steps)
