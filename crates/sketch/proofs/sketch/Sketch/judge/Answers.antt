use Rattle.{std.{proofs.Common.{sym, ◌∙◌, ap}, specs.{Option.option_map_or, Prelude.{option_map, string_bytes}}}, sketch.proofs.Judging.sketch-met}
use Rattle.sketch.{proofs.Judging.sketch-unmet, specs.{Judged.{judged_by, judged}, declared.judged.Judged.TheVariants.Unmet}}
use Rattle.sketch.proofs.sketch.Sketch.judge.Goals as goal

pub returns-in-Some-clause-met : goal.returns-in-Some-clause-met
returns-in-Some-clause-met c = λ ls k is same met.
    let w = c.args.want.now in
    sketch-met c.args.self.now ls k c.args.standing.now w
    (c.judge_by.ensures
    ∙ ap (λ o. option_map_or (λ x. judged_by x c.args.reach c.args.standing.now (option_map string_bytes w.needle) (option_map string_bytes w.class)) o Unmet) (sym c.in-Some.is)
    ∙ ap (λ r. judged c.args.self.now r c.args.standing.now w) same) is met

pub returns-in-Some-clause-unmet : goal.returns-in-Some-clause-unmet
returns-in-Some-clause-unmet c = λ ls k is same unmet.
    let w = c.args.want.now in
    sketch-unmet c.args.self.now ls k c.args.standing.now w
    (c.judge_by.ensures
    ∙ ap (λ o. option_map_or (λ x. judged_by x c.args.reach c.args.standing.now (option_map string_bytes w.needle) (option_map string_bytes w.class)) o Unmet) (sym c.in-Some.is)
    ∙ ap (λ r. judged c.args.self.now r c.args.standing.now w) same) is unmet
