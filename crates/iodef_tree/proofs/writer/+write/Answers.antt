use Rattle.{std.proofs.{Common.{arith, string_bytes, [], ◌∷◌, ◌++◌, false, subst, rules}, lemmas.Grind.common_steps}, iodef_tree.proofs.Filled.many-kept}
use Rattle.iodef_tree.{proofs.{Filled.{member-at, member-elements}, Writing.write-member}, specs.{Filled.IsMemberFilled, View.forest}}
use Rattle.iodef_tree.specs.{declared.object.Object.the_lemmas, inner.Written.written}
use Rattle.iodef_tree.proofs.writer.+write.Goals as goal

pub write_object-loop-name-preserved : goal.write_object-loop-name-preserved
write_object-loop-name-preserved t c =
    let m = c.loop-name-item.result in
    write-member (string_bytes c.loop-name.out) (string_bytes c.write_member.new.out) ((string_bytes c.args.out.now ++ 123 ∷ []) ++ written false (forest c.args.object.now)) c.loop-name.later c.deref-name-items.result.now
    c.loop-name.name-index m c.loop-name-test.true c.loop-name-item.is
    (member-elements m.1 (member-at c.args.object.now c.deref-name-items.result.now c.loop-name.name-index m c.requires c.deref-name-items.ensures.value c.loop-name-test.true c.loop-name-item.is))
    c.in_ok-write_member.ensures c.loop-name.invariant

pub write_bodies-write_items-requires : goal.write_bodies-write_items-requires
write_bodies-write_items-requires t c = (search (rules, the_lemmas), (many-kept c.in-Many.items (subst IsMemberFilled c.in-Many.is c.requires)).1)

pub write_object-write_member-requires : goal.write_object-write_member-requires
write_object-write_member-requires t c = (
  search (rules, the_lemmas),
  member-at c.args.object.now c.deref-name-items.result.now c.loop-name.name-index c.loop-name-item.result c.requires c.deref-name-items.ensures.value c.loop-name-test.true c.loop-name-item.is,
)

pub write_items-loop-item-preserved : goal.write_items-loop-item-preserved
write_items-loop-item-preserved t c = grind (arith, common_steps)

pub write_member-returns : goal.write_member-returns
write_member-returns t c = grind (arith, common_steps)

pub write_items-returns : goal.write_items-returns
write_items-returns t c = grind (arith, common_steps)

pub write_object-returns : goal.write_object-returns
write_object-returns t c = grind (arith, common_steps)
