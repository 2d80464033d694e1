use Rattle.{std.proofs.Common.arith, iodef_tree.proofs.Steps.document_from_steps}
use Rattle.iodef_tree.proofs.read.document_from.Goals as goal

pub returns-then-is_none : goal.returns-then-is_none
returns-then-is_none c = grind (arith, document_from_steps)

pub new-requires-clause-sound : goal.new-requires-clause-sound
new-requires-clause-sound c = grind (arith, document_from_steps)

pub returns : goal.returns
returns c = grind (arith, document_from_steps)
