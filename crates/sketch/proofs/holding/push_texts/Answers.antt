use Rattle.{std.proofs.Common.{arith, map}, sketch.{proofs.Texts.texts_next, specs.inner.Held.shown}}
use Rattle.sketch.proofs.holding.push_texts.Goals as goal

pub loop-member-preserved : goal.loop-member-preserved
loop-member-preserved c =
    texts_next c.args.class.now c.args.handling c.deref-member-items.result.now c.loop-member.member-index c.loop-member-item.result (map shown c.loop-member.held.items) (omega arith) c.loop-member-item.is
    c.in_ok-push_member_texts.ensures c.loop-member.invariant
