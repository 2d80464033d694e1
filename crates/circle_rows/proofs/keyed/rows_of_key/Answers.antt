use Rattle.{std.proofs.{Common.{◌≡◌, ◌-◌, sym, subst, arith, length, take, drop}, lemmas.List.{take_all, length-drop}}, circle.proofs.Lookup.stretch}
use Rattle.circle.{proofs.Lookup.ascend_drop, specs.Stretches.Ascend}
use Rattle.circle_rows.proofs.keyed.rows_of_key.Goals as goal

pub returns : goal.returns
returns g c up =
    let rows = c.args.rows.now in
    let from = c.count_below.result in
    let cut : take (length rows - from) (drop from rows) ≡ drop from rows = take_all (length rows - from) (drop from rows) (omega (arith, length-drop from rows)) in
    let first = c.count_below.ensures.parted up in
    let second = c.count_within.ensures.parted (subst (Ascend g.T.Keyed.key) (sym cut) (ascend_drop g.T.Keyed.key from rows up)) in
    sym (stretch g.T.Keyed.key c.args.key rows _ from c.count_within.result cut first.0 first.1 second.0 second.1 c.count_within.ensures.bound)
