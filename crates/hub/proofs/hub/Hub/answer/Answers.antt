use Rattle.{std.{proofs.{Common.{◌<◌, inl, inr, Err, w64, sym, ap, subst, refl, ◌∙◌}, lemmas.Int.to_z-of_z}, specs.Prelude.ℤ}, hub_core.specs.Shelves.HasFailed}
use Rattle.{hub_core.specs.Shelves.KeepsContent, hub.proofs.{AnsweredAlike.answered-alike, Served.{due_tells, given_up, failure_told, told_failed}}}
use Rattle.hub.{proofs.hub.Hub.answer.Goals.{in-Ok, in-Err}, specs.{Machine.state_left, Replies.reply_of, Serving.is_made}}
use Rattle.hub.proofs.hub.Hub.answer.Goals as goal

pub returns-clause-step : goal.returns-clause-step
returns-clause-step g c = λ clean s has sound.
    let P : g.row.Sh.Denot → Type 0 = λ shelf. g.Sh.Shelf.has shelf s in
    let moment = ap (λ (t : ℤ). reply_of s t c.args.key.now c.args.request.now) (to_z-of_z w64 c.args.now c.ranges.now) in
    let here : g.Sh.Shelf.has c.self.inside.shelf s = subst P (sym c.self.view_is) has in
    elim c.match-answer_key.branch [
      | in-Ok w ↦
          let served = w.in-Ok.ensures.step clean s here sound in
          (state_left s c.args.key.now c.args.request.now, inl (record { due = w.result-is ∙ served.settled.0 ∙ moment; aftermath = refl }), served.settled.1)
      | in-Err w ↦
          let served = w.in-Err.ensures.step clean s here sound in
          (s, inr (given_up w.in-Err.fault c.match-answer_key.result (w.result-is ∙ w.given_up.ensures), refl), served.settled)
    ]

pub returns-clause-alike : goal.returns-clause-alike
returns-clause-alike g c = λ clean s t a has alike known told.
    let P : g.row.Sh.Denot → Type 0 = λ shelf. g.Sh.Shelf.has shelf s in
    let moment = ap (λ (x : ℤ). reply_of s x c.args.key.now c.args.request.now) (to_z-of_z w64 c.args.now c.ranges.now) in
    let here : g.Sh.Shelf.has c.self.inside.shelf s = subst P (sym c.self.view_is) has in
    let same = ap (λ k. reply_of s c.args.now k c.args.request.now) known ∙ answered-alike c.args.now a s t c.args.request.now alike told ∙ sym (ap (λ k. reply_of t c.args.now k c.args.request.now) known) in
    elim c.match-answer_key.branch [
      | in-Ok w ↦
          let served = w.in-Ok.ensures.step clean s here alike.sound in
          inl (w.result-is ∙ served.settled.0 ∙ moment ∙ same)
      | in-Err w ↦
          inr (given_up w.in-Err.fault c.match-answer_key.result (w.result-is ∙ w.given_up.ensures))
    ]

pub returns-clause-cause : goal.returns-clause-cause
returns-clause-cause g c = λ clean s has sound failed.
    let P : g.row.Sh.Denot → Type 0 = λ shelf. g.Sh.Shelf.has shelf s in
    let moment = ap (λ (t : ℤ). reply_of s t c.args.key.now c.args.request.now) (to_z-of_z w64 c.args.now c.ranges.now) in
    let here : g.Sh.Shelf.has c.self.inside.shelf s = subst P (sym c.self.view_is) has in
    let R : g.row.Sh.Denot → Type 0 = λ shelf. HasFailed (g.Sh.Shelf.failed shelf) (g.Sh.Shelf.failed c.answer_key.new.shelf) in
    elim c.match-answer_key.branch [
      | in-Ok w ↦
          let served = w.in-Ok.ensures.step clean s here sound in
          absurd (due_tells s c.args.now c.args.key.now c.args.request.now (sym (w.result-is ∙ served.settled.0 ∙ moment) ∙ failed))
      | in-Err w ↦
          failure_told (HasFailed (g.Sh.Shelf.failed c.args.self.now) (g.Sh.Shelf.failed c.answer_key.new.shelf)) w.in-Err.fault
          (λ is. subst R c.self.view_is (w.in-Err.ensures.counted.cause (ap Err (sym is))))
          (sym (w.result-is ∙ w.given_up.ensures) ∙ failed)
    ]

pub returns-clause-counted : goal.returns-clause-counted
returns-clause-counted g c = λ rose.
    let R : g.row.Sh.Denot → Type 0 = λ shelf. g.Sh.Shelf.failed shelf < g.Sh.Shelf.failed c.answer_key.new.shelf in
    let counted = subst R (sym c.self.view_is) rose in
    elim c.match-answer_key.branch [
      | in-Ok w ↦
          let failed = w.in-Ok.ensures.counted.counted counted in
          absurd cc
      | in-Err w ↦
          w.result-is ∙ w.given_up.ensures ∙ told_failed w.in-Err.fault _ refl (w.in-Err.ensures.counted.counted counted)
    ]

pub returns-clause-kept : goal.returns-clause-kept
returns-clause-kept g c = λ unmade.
    let P : g.row.Sh.Denot → Type 0 = λ shelf. KeepsContent g.Sh.Shelf.has g.Sh.Shelf.doubts g.Sh.Shelf.failed g.Sh.Shelf.may_remain shelf c.answer_key.new.shelf in
    elim c.match-answer_key.branch [
      | in-Ok w ↦
          subst P c.self.view_is (w.in-Ok.ensures.kept (sym (ap is_made w.result-is) ∙ unmade))
      | in-Err w ↦
          subst P c.self.view_is (w.in-Err.ensures.kept refl)
    ]

pub returns-clause-crash : goal.returns-clause-crash
returns-clause-crash g c = λ clean s has sound left leaves.
    let P : g.row.Sh.Denot → Type 0 = λ shelf. g.Sh.Shelf.has shelf s in
    let B : g.row.Sh.Denot → Type 0 = λ shelf. g.Sh.Shelf.may_remain shelf left in
    let moment = ap (λ (t : ℤ). is_made (reply_of s t c.args.key.now c.args.request.now)) (to_z-of_z w64 c.args.now c.ranges.now) in
    let here : g.Sh.Shelf.has c.self.inside.shelf s = subst P (sym c.self.view_is) has in
    elim c.match-answer_key.branch [
      | in-Ok w ↦
          elim ((w.in-Ok.ensures.step clean s here sound).crash left leaves) [ inl before ↦ inl (subst B c.self.view_is before) | inr due ↦ inr (sym moment ∙ due.0, due.1) ]
      | in-Err w ↦
          elim ((w.in-Err.ensures.step clean s here sound).crash left leaves) [ inl before ↦ inl (subst B c.self.view_is before) | inr due ↦ inr (sym moment ∙ due.0, due.1) ]
    ]
