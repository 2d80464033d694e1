use Rattle.{std.proofs.{Common.{ℤ, subst, w64}, lemmas.Int.to_z-of_z}, hub_http.specs.Serving.Steps}
use Rattle.hub_http.proofs.serve.ask.Goals as goal

pub returns-clause-steps : goal.returns-clause-steps
returns-clause-steps g c =
    subst (λ (t : ℤ). Steps g.Sh.Shelf.has g.Sh.Shelf.doubts g.Sh.Shelf.failed g.Sh.Shelf.may_remain c.args.hub.now t (c.args.key.now, c.args.request.now) c.answer.result c.answer.new.self)
    (to_z-of_z w64 c.args.now c.ranges.now)
    record {
      step = c.answer.ensures.step;
      cause = c.answer.ensures.cause;
      counted = c.answer.ensures.counted;
      durable = c.answer.ensures.durable;
      crash = c.answer.ensures.crash;
    }
