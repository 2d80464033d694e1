use Rattle.{std.proofs.Common.{sym, ap, ◌∙◌, arith}, hub.proofs.{Changing.{number_more, number_none}, change.new_numbers.Goals.in-Some+in_ok-push}}
use Rattle.hub.proofs.change.new_numbers.Goals.{in_default}
use Rattle.hub.proofs.change.new_numbers.Goals as goal

pub loop-edit-preserved : goal.loop-edit-preserved
loop-edit-preserved c =
    let E = c.args.edits.now in
    let i = c.loop-edit.edit-index in
    let L = c.loop-edit.numbers.items in
    let M = c.match-new_number.numbers.items in
    elim c.match-new_number.branch [
      | in-Some+in_ok-push w ↦
          number_more E i c.edit-item.result L M (omega arith) c.edit-item.is c.loop-edit.invariant w.in-Some.number (sym c.new_number.ensures ∙ w.in-Some.is)
          (ap (λ v. v.items) w.numbers-is ∙ w.in_ok-push.ensures.items)
      | in_default w ↦
          number_none E i c.edit-item.result L M (omega arith) c.edit-item.is c.loop-edit.invariant (sym c.new_number.ensures ∙ w.in_default.is)
          (ap (λ v. v.items) w.numbers-is)
    ]
