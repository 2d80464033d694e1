use Rattle.{std.proofs.{Common.arith, lemmas.Grind.common_steps}, iodef_tree.specs.View.forest, marking.proofs.Bad.first_bad}
use Rattle.marking.proofs.rule.check.Goals as goal

pub returns-in-None : goal.returns-in-None
returns-in-None c = grind (arith, common_steps, first_bad (forest c.root.result.now) c.root.ensures.sound)

pub returns-in-Some : goal.returns-in-Some
returns-in-Some c = grind (arith, common_steps, first_bad (forest c.root.result.now) c.root.ensures.sound)
