use Rattle.{std.proofs.{Common.{arith, ◌∙◌, ap, subst, rules}, lemmas.Grind.common_steps}, iodef_tree.proofs.Data.{put-started, object-ordered, put-member}}
use Rattle.iodef_tree.{proofs.{Data.all-left, Filled.{many-kept, member-at, member-elements}, Views.bodies-Many}, specs.{Filled.IsMemberFilled, View.forest}}
use Rattle.iodef_tree.specs.{View.bodies, declared.object.Object.the_lemmas, inner.{FitValues.AreBodiesOrdered, Written.members_of}}
use Rattle.iodef_tree.proofs.value.+value.Goals as goal

pub object_value-loop-name-init : goal.object_value-loop-name-init
object_value-loop-name-init t c = record {
  left = put-started c.args.object.now c.deref-name-items.result.now c.new-made.result.entries c.requires.ordered c.deref-name-items.ensures.value c.new-made.ensures.empty;
  ordered = object-ordered c.args.object.now c.deref-name-items.result.now c.requires.ordered c.deref-name-items.ensures.value;
}

pub object_value-member_value-requires : goal.object_value-member_value-requires
object_value-member_value-requires t c = (
  search (rules, the_lemmas),
  (
    (all-left (λ x. AreBodiesOrdered x.1) c.deref-name-items.result.now c.loop-name.name-index c.loop-name-item.result c.loop-name-test.true c.loop-name-item.is c.loop-name.invariant.ordered).0,
    member-at c.args.object.now c.deref-name-items.result.now c.loop-name.name-index c.loop-name-item.result c.requires.filled c.deref-name-items.ensures.value c.loop-name-test.true c.loop-name-item.is,
  ),
)

pub member_value-items_value-requires : goal.member_value-items_value-requires
member_value-items_value-requires t c =
    let v = c.in-Many.items in (
      search (rules, the_lemmas),
      (
        subst AreBodiesOrdered (ap bodies c.in-Many.is ∙ bodies-Many v) c.requires.ordered,
        (many-kept v (subst IsMemberFilled c.in-Many.is c.requires.filled)).1,
      ),
    )

pub object_value-loop-name-preserved : goal.object_value-loop-name-preserved
object_value-loop-name-preserved t c =
    let m = c.loop-name-item.result in
    let filled = member-elements m.1 (member-at c.args.object.now c.deref-name-items.result.now c.loop-name.name-index m c.requires.filled c.deref-name-items.ensures.value c.loop-name-test.true c.loop-name-item.is) in
    record {
      left = put-member c.loop-name.made.entries c.put_member.new.made.entries c.in_ok-member_value.field-0 (members_of (forest c.args.object.now)) c.deref-name-items.result.now c.loop-name.name-index m
          c.loop-name-test.true c.loop-name-item.is filled c.in_ok-member_value.ensures c.in_ok-put_member.ensures c.loop-name.invariant.left;
      ordered = (all-left (λ x. AreBodiesOrdered x.1) c.deref-name-items.result.now c.loop-name.name-index m c.loop-name-test.true c.loop-name-item.is c.loop-name.invariant.ordered).1;
    }

pub items_value-loop-item-preserved : goal.items_value-loop-item-preserved
items_value-loop-item-preserved t c = grind (arith, common_steps)

pub items_value-returns : goal.items_value-returns
items_value-returns t c = grind (arith, common_steps)

pub object_value-returns : goal.object_value-returns
object_value-returns t c = grind (arith, common_steps)
