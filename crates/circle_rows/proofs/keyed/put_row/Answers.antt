use Rattle.{std.proofs.Common.{sym, ◌∙◌, subst}, circle.{proofs.Lookup.put_parted, specs.Stretches.Ascend}}
use Rattle.circle_rows.proofs.keyed.put_row.Goals as goal

pub returns-clause-items : goal.returns-clause-items
returns-clause-items g c up =
    let same = c.as_slice.ensures.value in
    let parted = c.count_within-at.ensures.parted (subst (Ascend g.T.Keyed.key) (sym same) up) in
    c.in-Ok.ensures.items
    ∙ sym (put_parted g.T.Keyed.key c.args.row c.key.result _ c.args.rows.now.items c.count_within-at.result same c.key.ensures c.count_within-at.ensures.bound parted.0 parted.1)
