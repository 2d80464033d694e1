use Rattle.{std.proofs.{Common.{◌+◌, drop, arith}, lemmas.Grind.common_steps}, iodef_tree.{proofs.Filled.{member-at, member-elements}, specs.View.bodies}}
use Rattle.{iodef_tree.specs.View.members_forest, marking.proofs.Fronts.{held-here, held-skip}}
use Rattle.marking.proofs.class.held.Goals as goal

pub returns-then-eq : goal.returns-then-eq
returns-then-eq c =
    let key = c.loop-key-item.result.0 in
    let member = c.loop-key-item.result.1 in
    let rest = members_forest (drop (c.loop-key.key-index + 1) c.deref-key-items.result.now) in
    let filled = member-at c.args.object.now c.deref-key-items.result.now c.loop-key.key-index c.loop-key-item.result c.requires c.deref-key-items.ensures.value c.loop-key-test.true c.loop-key-item.is in
    grind (arith, common_steps, held-here key c.args.name.now (bodies member) rest (member-elements member filled))

pub loop-key-preserved : goal.loop-key-preserved
loop-key-preserved c =
    let key = c.loop-key-item.result.0 in
    let member = bodies c.loop-key-item.result.1 in
    let rest = members_forest (drop (c.loop-key.key-index + 1) c.deref-key-items.result.now) in
    grind (arith, common_steps, held-skip key c.args.name.now member rest)
