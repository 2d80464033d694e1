use Rattle.{std.proofs.Common.{◌++◌, sym, ◌∙◌, ap, subst, rules}, serde_json.specs.Written.comma_if, iodef_tree.proofs.Filled.{many-kept, member-at}}
use Rattle.iodef_tree.{proofs.{Filled.member-elements, Views.{bodies-One, bodies-Many}}, specs.{Filled.IsMemberFilled, View.{bodies, body}}}
use Rattle.{iodef_tree.specs.{declared.object.Object.the_lemmas, inner.Written.{body_text, bodies_text, member_text}}, json_text.proofs.Puts.ok-both-are}
use Rattle.json_text.proofs.Trees.{member-is, item-more, member-more, object-ends}
use Rattle.json_text.proofs.tree.+put.Goals as goal

pub put_items-loop-item-preserved : goal.put_items-loop-item-preserved
put_items-loop-item-preserved g t c =
    let inv = c.loop-item.invariant in (
      inv.0 ++ (comma_if c.loop-item.out.after_value ++ body_text (body c.item-item.result)),
      g.met.S.Sink.joins _ _ _ _ _ inv.1 c.in_ok-put_item.ensures.puts,
      item-more inv.0 _ c.loop-item.out.after_value c.put_item.new.out.after_value c.deref-item-items.result.now c.loop-item.item-index c.item-item.result c.loop-item-test.true c.item-item.is
          c.in_ok-put_item.ensures.after inv.2,
    )

pub put_member-put_items-requires : goal.put_member-put_items-requires
put_member-put_items-requires g t c κs within = (search (rules, the_lemmas), (search rules, (many-kept c.in-Many.items (subst IsMemberFilled c.in-Many.is c.requires)).1))

pub put_member-returns-in-One-clause-puts : goal.put_member-returns-in-One-clause-puts
put_member-returns-in-One-clause-puts g t c =
    ok-both-are g.S.Sink.puts g.met.S.Sink.joins _ _ _ _ _ _ c.put_item.result
    (member-is c.args.out.now.after_value c.token.new.self.after_value c.as_str.result.now c.args.name.now (body_text (body c.in-One.item)) (bodies c.args.member.now)
    c.as_str.ensures c.in_ok-token.ensures.after (ap bodies_text (sym (ap bodies c.in-One.is ∙ bodies-One c.in-One.item))))
    c.in_ok-token.ensures.puts c.put_item.ensures.puts

pub put_member-returns-in-Many-clause-puts : goal.put_member-returns-in-Many-clause-puts
put_member-returns-in-Many-clause-puts g t c =
    ok-both-are g.S.Sink.puts g.met.S.Sink.joins _ _ _ _ _ _ c.put_items.result
    (member-is c.args.out.now.after_value c.token.new.self.after_value c.as_str.result.now c.args.name.now _ (bodies c.args.member.now)
    c.as_str.ensures c.in_ok-token.ensures.after (ap bodies_text (sym (ap bodies c.in-Many.is ∙ bodies-Many c.in-Many.items))))
    c.in_ok-token.ensures.puts c.put_items.ensures.puts

pub put_object-put_member-requires : goal.put_object-put_member-requires
put_object-put_member-requires g t c κs within = (
  search (rules, the_lemmas),
  (
    search rules,
    member-at c.args.object.now c.deref-name-items.result.now c.loop-name.name-index c.loop-name-item.result c.requires c.deref-name-items.ensures.value c.loop-name-test.true c.loop-name-item.is,
  ),
)

pub put_object-loop-name-preserved : goal.put_object-loop-name-preserved
put_object-loop-name-preserved g t c =
    let inv = c.loop-name.invariant in
    let m = c.loop-name-item.result in (
      inv.0 ++ member_text c.loop-name.out.after_value m.0 (bodies m.1),
      g.met.S.Sink.joins _ _ _ _ _ inv.1 c.in_ok-put_member.ensures.puts,
      member-more inv.0 _ c.loop-name.out.after_value c.put_member.new.out.after_value c.deref-name-items.result.now c.loop-name.name-index m c.loop-name-test.true c.loop-name-item.is
          (member-elements m.1 (member-at c.args.object.now c.deref-name-items.result.now c.loop-name.name-index m c.requires c.deref-name-items.ensures.value c.loop-name-test.true c.loop-name-item.is))
          c.in_ok-put_member.ensures.after inv.2,
    )

pub put_object-returns-clause-puts : goal.put_object-returns-clause-puts
put_object-returns-clause-puts g t c =
    let inv = c.loop-name.invariant in
    ok-both-are g.S.Sink.puts g.met.S.Sink.joins _ _ _ _ _ _ c.token-2.result
    (object-ends c.loop-name.out.after_value inv.0 (comma_if c.args.out.now.after_value) _ c.deref-name-items.result.now c.loop-name.name-index inv.2 c.loop-name-test.false)
    inv.1 c.token-2.ensures.puts
