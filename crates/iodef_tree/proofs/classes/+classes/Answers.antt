use Rattle.{std.proofs.{Common.{arith, ◌++◌, ◌∙◌, ap}, lemmas.Grind.common_steps}, iodef_tree.proofs.{ClassesBelow.classes-append, Fronts.list-next}}
use Rattle.iodef_tree.specs.{Tree.{end, member_front}, View.bodies, Walk.classes_below}
use Rattle.iodef_tree.proofs.classes.+classes.Goals as goal

pub push_object-loop-name-preserved : goal.push_object-loop-name-preserved
push_object-loop-name-preserved t c =
    let m = c.loop-name-item.result in
    record {
      pushed = list-next (classes_below c.args.above.now.items) (classes-append c.args.above.now.items) c.deref-name-items.result.now c.loop-name.name-index m c.push_member.new.paths.items c.loop-name.paths.items
          c.loop-name-test.true c.loop-name-item.is
          (c.in_ok-push_member.ensures.pushed ∙ ap (λ p. c.loop-name.paths.items ++ classes_below p (member_front m.0 (bodies m.1) end)) c.loop-name.invariant.kept)
          ∙ c.loop-name.invariant.pushed;
      kept = c.in_ok-push_member.ensures.kept ∙ c.loop-name.invariant.kept;
    }

pub push_item-returns-in_ok-push_object-in-Class-clause-kept : goal.push_item-returns-in_ok-push_object-in-Class-clause-kept
push_item-returns-in_ok-push_object-in-Class-clause-kept t c = grind (arith, common_steps)

pub push_member-loop-place-preserved : goal.push_member-loop-place-preserved
push_member-loop-place-preserved t c = grind (arith, common_steps)

pub push_member-returns-after-loop-place-clause-pushed : goal.push_member-returns-after-loop-place-clause-pushed
push_member-returns-after-loop-place-clause-pushed t c = grind (arith, common_steps)

pub push_object-returns-clause-pushed : goal.push_object-returns-clause-pushed
push_object-returns-clause-pushed t c = grind (arith, common_steps)
