use Rattle.{std.{proofs.{Common.{◌+◌, drop, arith, append_assoc, rules}, lemmas.Grind.common_steps}, specs.List.flat_map}, iodef_tree.proofs.Filled.member-at}
use Rattle.iodef_tree.{proofs.Filled.element-at, specs.{Tree.{end, member_front}, View.{bodies, members_forest}, declared.object.Object.the_lemmas}}
use Rattle.marking.{proofs.Fronts.written-member, specs.{Marks.marked_by, inner.Pass.marked_below}}
use Rattle.marking.proofs.pass.+marks.Goals as goal

pub write_members-loop-name-preserved : goal.write_members-loop-name-preserved
write_members-loop-name-preserved g t c =
    let line = g.W.MarkWriter.line in
    let name = c.loop-name-item.result.0 in
    let member = bodies c.loop-name-item.result.1 in
    let rest = members_forest (drop (c.loop-name.name-index + 1) c.deref-name-items.result.now) in
    let above = marked_by c.args.above in
    grind (
      arith,
      common_steps,
      written-member line above name member rest,
      append_assoc (g.W.MarkWriter.text c.loop-name.writer) (flat_map line (marked_below above (member_front name member end))) (flat_map line (marked_below above rest)),
    )

pub write_members-write_member-requires : goal.write_members-write_member-requires
write_members-write_member-requires g t c = λ k s. (
  search (rules, the_lemmas),
  (
    s,
    member-at c.args.object.now c.deref-name-items.result.now c.loop-name.name-index c.loop-name-item.result c.requires.filled c.deref-name-items.ensures.value c.loop-name-test.true c.loop-name-item.is,
  ),
)

pub write_member-write_item-requires-in-loop-index : goal.write_member-write_item-requires-in-loop-index
write_member-write_item-requires-in-loop-index g t c = λ k s. (
  search (rules, the_lemmas),
  (
    s,
    element-at c.args.member.now c.in-Many.items c.deref-item-items.result.now c.loop-index.index c.item-item.result c.requires.1.1.1 c.in-Many.is c.deref-item-items.ensures.value c.loop-index-test.true c.item-item.is,
  ),
)

pub write_member-loop-index-preserved : goal.write_member-loop-index-preserved
write_member-loop-index-preserved g t c = grind (arith, common_steps)

pub write_member-returns-after-loop-index : goal.write_member-returns-after-loop-index
write_member-returns-after-loop-index g t c = grind (arith, common_steps)

pub write_members-returns : goal.write_members-returns
write_members-returns g t c = grind (arith, common_steps)
