use Rattle.{std.proofs.Common.{◌==◌, if◌then◌else◌, ◌∙◌, ap, length, arith}, circle.specs.declared.directory.Account.Account}
use Rattle.circle_rows.proofs.Exchanged.{exchanged_more}
use Rattle.circle_rows.proofs.sets.set_key.Goals as goal

pub loop-row-preserved : goal.loop-row-preserved
loop-row-preserved c =
    exchanged_more (λ (a : Account). if a.person.number == c.args.person then record a { key = c.args.key } else a) c.args.rows.now.items
    c.loop-row.row-items c.loop-row.row-index c.row-item.result _ (omega arith)
    (c.loop-row.auto.row-items ∙ ap length c.deref_mut-row-items.ensures.value) c.loop-row.invariant c.set_row_key.ensures
