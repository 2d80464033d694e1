use Rattle.{std.proofs.Common.{ap, ◌∙◌, not, ◌==◌, length}, circle.{proofs.Lookup.some_having, specs.Stretches.same_pair}}
use Rattle.circle_rows.proofs.keyed.has_row.Goals as goal

pub returns : goal.returns
returns g c up =
    ap not c.is_empty.ensures ∙ (ap (λ l. not (length l == 0)) (c.rows_of_key.ensures up) ∙ some_having (λ x. same_pair (g.T.Keyed.key x) c.args.key) c.args.rows.now)
