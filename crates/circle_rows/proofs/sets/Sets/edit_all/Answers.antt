use Rattle.{std.{proofs.Common.{◌≡◌, ◌+◌, ◌∷◌, length, sym, ap, subst, ◌∙◌, arith}, specs.Vec.Iter.into_iter_items}, circle.specs.Aftermath.edited_rows}
use Rattle.circle_rows.{proofs.InKeys.order_after, specs.Rows.{directory_of, IsAscending, HasRoom}}
use Rattle.circle_rows.proofs.sets.Sets.edit_all.Goals as goal

pub loop-edit-preserved : goal.loop-edit-preserved
loop-edit-preserved c =
    let at = c.loop-edit in
    let edit = c.in-Some.edit in
    let rest = into_iter_items c.next.new.self in
    let steps : into_iter_items at.edit-iterator ≡ edit ∷ rest = c.in-Some.ensures.steps.0 in
    let long = ap length steps in
    let one_more : length (into_iter_items at.edit-iterator) ≡ length rest + 1 = omega arith in (
      ap (λ d. edited_rows rest d) c.edit.ensures.value ∙ (ap (λ l. edited_rows l (directory_of at.self)) (sym steps) ∙ at.invariant.0),
      c.edit.ensures.left (length rest) (subst (λ n. HasRoom n at.self) one_more at.invariant.1),
      subst IsAscending (sym c.edit.ensures.value) (order_after edit (directory_of at.self) at.invariant.2),
      let was = at.invariant.3 in
          let gone = c.in-Some.ensures.steps.1 in
          omega arith,
    )
