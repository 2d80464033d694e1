use Rattle.{std.proofs.Common.{arith, rules}, iodef_tree.{proofs.Filled.{member-at, element-at}, specs.declared.object.Object.the_lemmas}}
use Rattle.redaction.proofs.SpelledLabels.{strictest_steps}
use Rattle.redaction.proofs.highest.+strictest.Goals as goal

pub strictest_in-loop-name-preserved : goal.strictest_in-loop-name-preserved
strictest_in-loop-name-preserved t c = grind (arith, strictest_steps)

pub strictest_in-strictest_of-strictest-requires : goal.strictest_in-strictest_of-strictest-requires
strictest_in-strictest_of-strictest-requires t c = (
  search (rules, the_lemmas),
  member-at c.args.object.now c.deref-name-items.result.now c.loop-name._name-index c.loop-name-item.result c.requires c.deref-name-items.ensures.value c.loop-name-test.true c.loop-name-item.is,
)

pub strictest_of-strictest_at-strictest-requires : goal.strictest_of-strictest_at-strictest-requires
strictest_of-strictest_at-strictest-requires t c = (
  search (rules, the_lemmas),
  element-at c.args.member.now c.in-Many.items c.deref-item-items.result.now c.loop-item.item-index c.item-item.result c.requires c.in-Many.is c.deref-item-items.ensures.value c.loop-item-test.true c.item-item.is,
)
