use Rattle.{std.{proofs.Common.{ap, ◌∙◌}, specs.Prelude.slice_get}, circle.{proofs.Lookup.first_having, specs.Stretches.same_pair}}
use Rattle.circle_rows.proofs.keyed.row_of.Goals as goal

pub returns : goal.returns
returns g c up =
    c.first.ensures.value ∙ (ap (λ l. slice_get l 0) (c.rows_of_key.ensures up) ∙ first_having (λ x. same_pair (g.T.Keyed.key x) c.args.key) c.args.rows.now)
