use Rattle.{std.{proofs.Common.{◌≡◌, w64, to_z, of_z, subst, rules}, specs.Prelude.ℤ}, hub.specs.OneByOne.IsOneAnswer}
use Rattle.hub.proofs.hub.Hub.step.Goals as goal

pub returns : goal.returns
returns g c =
    let shelf = g.Sh.Shelf in
    let asked = c.args.asked.now in
    let moment : to_z w64 (of_z w64 asked.0) ≡ asked.0 = search rules in
    subst (λ (t : ℤ). IsOneAnswer shelf.has shelf.doubts shelf.failed shelf.may_remain c.args.self.now (t, asked.1, asked.2) c.answer.result c.answer.new.self) moment
    record {
      kept = c.answer.ensures.kept;
      step = c.answer.ensures.step;
      cause = c.answer.ensures.cause;
      counted = c.answer.ensures.counted;
      durable = c.answer.ensures.durable;
      crash = c.answer.ensures.crash;
      later = c.answer.ensures.later;
      doubt = c.answer.ensures.doubt;
    }
