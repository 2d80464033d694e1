use Rattle.{std.proofs.{Common.{◌≡◌, ◌++◌, [], ◌∷◌, take, subst, arith, rules}, lemmas.List.take_all}, hub.proofs.{Failures.{counted_on, failure_alone}, Leaving.left_in_turn}}
use Rattle.hub.{proofs.{OneMore.answers_on, Runs.{goes_on, runs_sound}, Stopped.stops_on}, specs.inner.InTurn.MayBeLeftInTurn}
use Rattle.hub.proofs.hub.Hub.run.Goals as goal

pub loop-one-preserved : goal.loop-one-preserved
loop-one-preserved g c =
    let shelf = g.Sh.Shelf in
    let earlier = c.loop-one.replies.items in
    let reply = c.step-reply.result in
    let one = c.step-reply.ensures in
    let items : c.push.new.self.items ≡ earlier ++ reply ∷ [] = search rules in
    record {
      room = search rules;
      count = search rules;
      later = omega (arith, one.later);
      doubt = omega (arith, one.doubt);
      each = rw items (answers_on shelf.has shelf.doubts shelf.failed shelf.may_remain c.args.self.now c.loop-one.self c.step-reply.new.self c.args.asked.now c.loop-one.one-index c.one-item.result earlier reply c.one-item.is c.loop-one-test.true
          c.loop-one.invariant.each one);
      told = λ clean s has sound.
          let before : shelf.doubts c.loop-one.self ≡ 0 = omega (arith, one.doubt) in
          let on = goes_on shelf.has c.loop-one.self c.step-reply.new.self s c.args.asked.now c.loop-one.one-index c.one-item.result earlier reply c.one-item.is c.loop-one-test.true sound
          (c.loop-one.invariant.told before s has sound) (one.step clean) in
          (on.0, rw items on.1, on.2);
      cause = λ clean s has sound.
          let before : shelf.doubts c.loop-one.self ≡ 0 = omega (arith, one.doubt) in
          let mid = c.loop-one.invariant.told before s has sound in
          let whole = runs_sound s mid.0 _ _ sound mid.1 in
          let step = one.step clean mid.0 mid.2 whole in
          rw items (counted_on (shelf.failed c.args.self.now) (shelf.failed c.loop-one.self) (shelf.failed c.step-reply.new.self) earlier reply (c.loop-one.invariant.cause before s has sound) one.later
          (λ tells. one.cause clean mid.0 mid.2 whole (failure_alone mid.0 step.0 c.one-item.result reply step.1 tells)));
      crash = λ clean s has sound.
          let before : shelf.doubts c.loop-one.self ≡ 0 = omega (arith, one.doubt) in
          let mid = c.loop-one.invariant.told before s has sound in
          let whole = runs_sound s mid.0 _ _ sound mid.1 in
          let step = one.step clean mid.0 mid.2 whole in
          rw items (stops_on shelf.may_remain c.args.self.now c.loop-one.self c.step-reply.new.self s mid.0 step.0 c.args.asked.now c.loop-one.one-index c.one-item.result earlier reply c.one-item.is c.loop-one-test.true
          mid.1 step.1 (c.loop-one.invariant.crash before s has sound) (one.durable clean mid.0 mid.2 whole) (one.crash clean mid.0 mid.2 whole));
    }

pub returns-clause-crash : goal.returns-clause-crash
returns-clause-crash g c =
    let before = g.Sh.Shelf.may_remain c.args.self.now in
    let asked = c.args.asked.now in
    let replies = c.loop-one.replies.items in
    let whole : take c.loop-one.one-index asked ≡ asked = take_all c.loop-one.one-index asked c.loop-one-test.false in
    λ clean s has sound left there.
    left_in_turn before s asked replies left (subst (λ q. MayBeLeftInTurn before s q replies left) whole (c.loop-one.invariant.crash clean s has sound left there))
