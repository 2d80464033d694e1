use Rattle.{std.proofs.Common.{◌==◌, if◌then◌else◌, ◌∙◌, ap, length, arith}, circle.specs.declared.directory.Group.Group}
use Rattle.circle_rows.proofs.Exchanged.{exchanged_more}
use Rattle.circle_rows.proofs.sets.switch.Goals as goal

pub loop-row-preserved : goal.loop-row-preserved
loop-row-preserved c =
    exchanged_more (λ (g : Group). if g.number == c.args.group then record g { active = c.args.active } else g) c.args.rows.now.items c.loop-row.row-items c.loop-row.row-index c.row-item.result _
    (omega arith) (c.loop-row.auto.row-items ∙ ap length c.deref_mut-row-items.ensures.value) c.loop-row.invariant c.switch_row.ensures
