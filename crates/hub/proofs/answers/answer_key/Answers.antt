use Rattle.std.{proofs.{Common.{◌≡◌, Option, Some, sym, subst, ◌∙◌, arith, w64, to_z, of_z}, lemmas.Int.to_z-of_z}, specs.Prelude.ℤ}
use Rattle.{hub_core.specs.Refusals.state_after, circle.specs.declared.directory.Person.Person, hub.proofs.Served.{caller_there, caller_org, served_on}}
use Rattle.hub.specs.{Machine.left_by, Replies.{caller_of, reply_by}, Serving.{IsDoneAsDue, due_to}}
use Rattle.hub.proofs.answers.answer_key.Goals as goal

pub returns-in-Some-clause-step : goal.returns-in-Some-clause-step
returns-in-Some-clause-step g c = λ clean s has sound.
    let shelf = g.Sh.Shelf in
    let r = c.args.request.now in
    let p = c.in-Some.person in
    let first = c.in_ok-caller_by.ensures in
    let mid : shelf.doubts c.caller_by.new.shelf ≡ 0 = omega (arith, c.answer_person.ensures.counted.doubt) in
    let here = first.kept.content mid s has in
    let is : caller_of s c.args.key.now ≡ Some p = sym (first.value mid s has) ∙ c.in-Some.is in
    let P : Option Person → Type 0 = λ o. IsDoneAsDue shelf.has shelf.may_remain c.args.shelf.now c.answer_person.new.shelf s (reply_by s c.args.now o r) (left_by s o r) c.answer_person.result in
    let N : ℤ → Type 0 = λ now. IsDoneAsDue shelf.has shelf.may_remain c.args.shelf.now c.answer_person.new.shelf s (due_to s now p r) (state_after s p r) c.answer_person.result in
    subst P (sym is) (subst N (to_z-of_z w64 c.args.now c.ranges.now) (served_on first.kept mid s (due_to s (to_z w64 (of_z w64 c.args.now)) p r) (state_after s p r) c.answer_person.result (c.answer_person.ensures.step clean s here sound (caller_there s c.args.key.now p sound is) (caller_org s c.args.key.now p sound is))))
