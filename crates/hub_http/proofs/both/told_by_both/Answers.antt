use Rattle.{std.proofs.{Common.{ℤ, sym, subst, w64}, lemmas.{Int.to_z-of_z, Result.IfOk-weaker}}, hub.specs.Machine.IsStep}
use Rattle.hub_http.{proofs.WrittenAlike.written-alike, specs.{Alike.IsWrittenAlike, Replies.reply_text}}
use Rattle.hub_http.proofs.both.told_by_both.Goals as goal

pub returns-clause-alike : goal.returns-clause-alike
returns-clause-alike g c = λ clean clean' s t a has has' sound sound' alike known told.
    let key = c.args.key.now in
    let request = c.args.request.now in
    let moment = to_z-of_z w64 c.args.now c.ranges.now in
    let first = c.answer-one.ensures.step clean s has sound in
    let second = c.answer-other.ensures.step clean' t has' sound' in
    let one = c.answer-one.result in
    let other = c.answer-other.result in
    let h : IsWrittenAlike (reply_text one) (reply_text other) =
    written-alike c.args.now a s t first.0 second.0 key request one other alike known told
    (subst (λ (x : ℤ). IsStep s (x, key, request) one first.0) moment first.1)
    (subst (λ (x : ℤ). IsStep t (x, key, request) other second.0) moment second.1) in
    IfOk-weaker c.bytes_of_both.result _ _ (λ both k. subst (λ bytes. IsWrittenAlike bytes both.1.items) (sym k.0) (subst (IsWrittenAlike (reply_text one)) (sym k.1) h)) c.bytes_of_both.ensures

pub returns-clause-first : goal.returns-clause-first
returns-clause-first g c = λ clean s has sound.
    let h = c.answer-one.ensures.step clean s has sound in (
      c.answer-one.result,
      record {
        left = h.0;
        step = subst (λ (x : ℤ). IsStep s (x, c.args.key.now, c.args.request.now) c.answer-one.result h.0) (to_z-of_z w64 c.args.now c.ranges.now) h.1;
        after = h.2;
        cause = c.answer-one.ensures.cause clean s has sound;
      },
      IfOk-weaker c.bytes_of_both.result _ _ (λ both k. k.0) c.bytes_of_both.ensures,
    )

pub returns-clause-second : goal.returns-clause-second
returns-clause-second g c = λ clean t has sound.
    let h = c.answer-other.ensures.step clean t has sound in (
      c.answer-other.result,
      record {
        left = h.0;
        step = subst (λ (x : ℤ). IsStep t (x, c.args.key.now, c.args.request.now) c.answer-other.result h.0) (to_z-of_z w64 c.args.now c.ranges.now) h.1;
        after = h.2;
        cause = c.answer-other.ensures.cause clean t has sound;
      },
      IfOk-weaker c.bytes_of_both.result _ _ (λ both k. k.1) c.bytes_of_both.ensures,
    )
