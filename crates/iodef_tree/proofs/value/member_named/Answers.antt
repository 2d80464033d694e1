use Rattle.{std.proofs.{Common.{◌≡◌, true, false, sym, ◌∙◌, ap, bytes_eq, arith}, lemmas.Grind.common_steps}, iodef_tree.proofs.Data.all-left}
use Rattle.iodef_tree.{proofs.{Filled.{member-at, member-elements}, MembersByName.{object-members, kept-members, member-next}}, specs.inner.SoundParts.AreKept}
use Rattle.iodef_tree.proofs.value.member_named.Goals as goal

pub loop-own-init : goal.loop-own-init
loop-own-init c = grind (arith, kept-members, object-members)

pub returns-then-eq-clause-found : goal.returns-then-eq-clause-found
returns-then-eq-clause-found c =
    let m = c.loop-own-item.result in
    let xs = c.deref-own-items.result.now in
    let i = c.loop-own.own-index in
    let filled = member-elements m.1 (member-at c.args.object.now xs i m c.requires.filled c.deref-own-items.ensures.value c.loop-own-test.true c.loop-own-item.is) in
    let named : bytes_eq m.0 c.args.name.now ≡ true = ap (λ x. bytes_eq x c.args.name.now) (sym c.as_str.ensures) ∙ sym c.eq.ensures ∙ c.if-eq.true in
    sym (member-next c.args.name.now xs i m true c.loop-own-test.true c.loop-own-item.is named filled) ∙ c.loop-own.invariant.left

pub returns-then-eq-clause-kept : goal.returns-then-eq-clause-kept
returns-then-eq-clause-kept c = grind (arith, common_steps, all-left)

pub returns-then-eq-clause-filled : goal.returns-then-eq-clause-filled
returns-then-eq-clause-filled c = grind (arith, member-at)

pub loop-own-preserved : goal.loop-own-preserved
loop-own-preserved c =
    let k = c.args.name.now in
    let xs = c.deref-own-items.result.now in
    let i = c.loop-own.own-index in
    let m = c.loop-own-item.result in
    let filled = member-elements m.1 (member-at c.args.object.now xs i m c.requires.filled c.deref-own-items.ensures.value c.loop-own-test.true c.loop-own-item.is) in
    record {
      left =
          sym (member-next k xs i m false c.loop-own-test.true c.loop-own-item.is (ap (λ x. bytes_eq x k) (sym c.as_str.ensures) ∙ sym c.eq.ensures ∙ c.if-eq.false) filled)
          ∙ c.loop-own.invariant.left;
      kept = (all-left (λ x. AreKept x.1) xs i m c.loop-own-test.true c.loop-own-item.is c.loop-own.invariant.kept).1;
    }
