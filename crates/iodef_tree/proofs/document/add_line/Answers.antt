use Rattle.{std.proofs.{Common.arith, lemmas.Grind.common_steps}, iodef_tree.proofs.Outlines.back-push}
use Rattle.iodef_tree.proofs.document.add_line.Goals as goal

pub returns-clause-shown : goal.returns-clause-shown
returns-clause-shown c = grind (arith, common_steps, back-push)
