use Rattle.{std.proofs.{Common.{◌∙◌, arith, rules}, lemmas.Grind.common_steps}, iodef_tree.proofs.Fronts.{lines-append, list-next, height-next}}
use Rattle.iodef_tree.specs.{Tree.lines, declared.object.Object.the_lemmas}
use Rattle.iodef_tree.proofs.outline.+outline.Goals as goal

pub push_object-push_member-requires : goal.push_object-push_member-requires
push_object-push_member-requires t c =
    let high = height-next c.deref-name-items.result.now c.loop-name.name-index c.loop-name-item.result c.loop-name-test.true c.loop-name-item.is in
    (search (rules, the_lemmas), omega arith)

pub push_object-loop-name-preserved : goal.push_object-loop-name-preserved
push_object-loop-name-preserved t c = record {
  lines = list-next (lines c.args.depth) (lines-append c.args.depth) c.deref-name-items.result.now c.loop-name.name-index c.loop-name-item.result c.push_member.new.lines.items c.loop-name.lines.items
      c.loop-name-test.true c.loop-name-item.is c.in_ok-push_member.ensures
      ∙ c.loop-name.invariant.lines;
  room = let high = height-next c.deref-name-items.result.now c.loop-name.name-index c.loop-name-item.result c.loop-name-test.true c.loop-name-item.is in omega arith;
}

pub push_member-loop-item-preserved : goal.push_member-loop-item-preserved
push_member-loop-item-preserved t c = grind (arith, common_steps)

pub push_member-returns-after-loop-item : goal.push_member-returns-after-loop-item
push_member-returns-after-loop-item t c = grind (arith, common_steps)

pub push_object-returns : goal.push_object-returns
push_object-returns t c = grind (arith, common_steps)
