use Rattle.{std.proofs.{Common.{◌+◌, drop, arith, rules}, lemmas.Grind.common_steps}, iodef_tree.{proofs.Filled.{member-at, element-at}, specs.View.bodies}}
use Rattle.{iodef_tree.specs.{View.members_forest, declared.object.Object.the_lemmas}, marking.{proofs.Fronts.{bad-none, bad-some}, specs.inner.Pass.tokens_of}}
use Rattle.marking.proofs.rule.+check.Goals as goal

pub bad_below-returns-in-Some : goal.bad_below-returns-in-Some
bad_below-returns-in-Some t c =
    let name = c.loop-name-item.result.0 in
    let member = bodies c.loop-name-item.result.1 in
    let rest = members_forest (drop (c.loop-name.name-index + 1) c.deref-name-items.result.now) in
    grind (arith, common_steps, bad-some name member rest (tokens_of c.in-Some.trail))

pub bad_below-loop-name-preserved : goal.bad_below-loop-name-preserved
bad_below-loop-name-preserved t c =
    let name = c.loop-name-item.result.0 in
    let member = bodies c.loop-name-item.result.1 in
    let rest = members_forest (drop (c.loop-name.name-index + 1) c.deref-name-items.result.now) in
    grind (arith, common_steps, bad-none name member rest)

pub bad_below-bad_in_member-requires : goal.bad_below-bad_in_member-requires
bad_below-bad_in_member-requires t c = (
  search (rules, the_lemmas),
  member-at c.args.object.now c.deref-name-items.result.now c.loop-name.name-index c.loop-name-item.result c.requires.filled c.deref-name-items.ensures.value c.loop-name-test.true c.loop-name-item.is,
)

pub bad_in_member-bad_in_item-requires-in-loop-index : goal.bad_in_member-bad_in_item-requires-in-loop-index
bad_in_member-bad_in_item-requires-in-loop-index t c = (
  search (rules, the_lemmas),
  element-at c.args.member.now c.in-Many.items c.deref-item-items.result.now c.loop-index.index c.item-item.result c.requires.filled c.in-Many.is c.deref-item-items.ensures.value c.loop-index-test.true c.item-item.is,
)

pub bad_below-returns : goal.bad_below-returns
bad_below-returns t c = grind (arith, common_steps)

pub bad_in_member-loop-index-preserved : goal.bad_in_member-loop-index-preserved
bad_in_member-loop-index-preserved t c = grind (arith, common_steps)

pub bad_in_member-returns-after-loop-index : goal.bad_in_member-returns-after-loop-index
bad_in_member-returns-after-loop-index t c = grind (arith, common_steps)
