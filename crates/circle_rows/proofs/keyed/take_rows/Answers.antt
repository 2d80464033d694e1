use Rattle.{std.{proofs.{Common.rules, lemmas.Fn.filter_same}, specs.Prelude.not}, circle.specs.Stretches.same_pair}
use Rattle.circle_rows.proofs.keyed.take_rows.Goals as goal

pub returns-clause-items : goal.returns-clause-items
returns-clause-items g c = filter_same _ (λ x. not (same_pair (g.T.Keyed.key x) c.args.key)) _ (λ f x b k. search rules) _ _ c.retain.ensures.filtered
