use Rattle.{std.proofs.Common.{◌∙◌, sym}, kept_rows.proofs.{Drawn.document_drawn, Reading.met_there}}
use Rattle.kept_rows.proofs.sketches.Sketches.judge.Goals as goal

pub returns-in-Some-clause-met : goal.returns-in-Some-clause-met
returns-in-Some-clause-met c = λ s k all sound same is.
    let drawn = document_drawn c.args.incident c.in-Some.sketch.now s sound (all c.args.incident c.in-Some.sketch.now (sym c.in-Some.ensures)) in
    met_there c.args.incident k c.args.standing.now c.args.want.now s drawn.0 drawn.1 ∙ c.judge.ensures.met drawn.0 k drawn.2 same is

pub returns-in-Some-clause-unmet : goal.returns-in-Some-clause-unmet
returns-in-Some-clause-unmet c = λ s k all sound same is.
    let drawn = document_drawn c.args.incident c.in-Some.sketch.now s sound (all c.args.incident c.in-Some.sketch.now (sym c.in-Some.ensures)) in
    met_there c.args.incident k c.args.standing.now c.args.want.now s drawn.0 drawn.1 ∙ c.judge.ensures.unmet drawn.0 k drawn.2 same is
