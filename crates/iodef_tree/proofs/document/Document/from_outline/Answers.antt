use Rattle.{std.proofs.Common.arith, iodef_tree.proofs.Steps.from_outline_steps}
use Rattle.iodef_tree.proofs.document.Document.from_outline.Goals as goal

pub returns-then-not-branch-clause-err : goal.returns-then-not-branch-clause-err
returns-then-not-branch-clause-err c = grind (arith, from_outline_steps)

pub loop-line-preserved : goal.loop-line-preserved
loop-line-preserved c = grind (arith, from_outline_steps)

pub finish-requires : goal.finish-requires
finish-requires c = grind (arith, from_outline_steps)

pub returns-clause-ok : goal.returns-clause-ok
returns-clause-ok c = grind (arith, from_outline_steps)
