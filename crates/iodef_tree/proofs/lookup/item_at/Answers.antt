use Rattle.{std.proofs.Common.{◌≡◌, true, sym, ◌∙◌, ap, bytes_eq, arith}, iodef_tree.proofs.{Filled.member-at, Members.{found-here, not-here, other-here}}}
use Rattle.iodef_tree.proofs.lookup.item_at.Goals.{then-eq+else-is_some, else-eq}
use Rattle.iodef_tree.proofs.lookup.item_at.Goals as goal

pub returns-then-is_some-clause-parts : goal.returns-then-is_some-clause-parts
returns-then-is_some-clause-parts c =
    let named : bytes_eq c.loop-own-item.result.0 c.args.name.now ≡ true =
    ap (λ x. bytes_eq x c.args.name.now) (sym c.as_str.ensures) ∙ sym c.eq.ensures ∙ c.if-eq.true in
    found-here c.deref-own-items.result.now c.loop-own.own-index c.loop-own-item.result c.args.name.now c.args.path.now c.part_of-part.result
    c.loop-own-test.true c.loop-own-item.is named (sym c.is_some.ensures ∙ c.if-is_some.true) c.part_of-part.ensures.parts
    ∙ c.loop-own.invariant

pub loop-own-preserved : goal.loop-own-preserved
loop-own-preserved c = elim c.if-eq.branch [
  | then-eq+else-is_some w ↦
      not-here c.deref-own-items.result.now c.loop-own.own-index c.loop-own-item.result c.args.name.now c.args.path.now w.part_of-part.result
      c.loop-own-test.true c.loop-own-item.is (ap (λ x. bytes_eq x c.args.name.now) (sym c.as_str.ensures) ∙ sym c.eq.ensures ∙ w.if-eq.true)
      (sym w.is_some.ensures ∙ w.if-is_some.false) w.part_of-part.ensures.parts
      ∙ c.loop-own.invariant
  | else-eq w ↦
      other-here c.deref-own-items.result.now c.loop-own.own-index c.loop-own-item.result c.args.name.now c.args.path.now
      c.loop-own-test.true c.loop-own-item.is (ap (λ x. bytes_eq x c.args.name.now) (sym c.as_str.ensures) ∙ sym c.eq.ensures ∙ w.if-eq.false)
      ∙ c.loop-own.invariant
]

pub part_of-part-requires : goal.part_of-part-requires
part_of-part-requires c = grind (arith, member-at)
