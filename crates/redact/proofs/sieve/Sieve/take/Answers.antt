use Rattle.{std.proofs.Common.{◌^◌, ◌<◌, [], ◌∷◌, ◌++◌, length, refl, sym, ◌∙◌, ap, subst, arith}, redact.proofs.Sifting.{sifts-gone, sifts-kept, fits-among}}
use Rattle.redact.{proofs.{Sifting.{placed-among, parent-among}, Tracking.{is-counted, tracks-more, shuts}}, specs.{Matters.is_refused, Sifted.shut_by}}
use Rattle.redact.specs.Sifted.{is_shutting, Tracks}
use Rattle.redact.proofs.sieve.Sieve.take.Goals as goal

pub returns-then-is_shut : goal.returns-then-is_shut
returns-then-is_shut c = λ ls h fits. sifts-gone c.args.case.now c.args.standing.now ls c.args.line c.args.self.now _ h fits (sym c.is_shut.ensures ∙ c.if-is_shut.true) refl

pub returns : goal.returns
returns c = λ ls h fits.
    let case = c.args.case.now in
    let s = c.args.standing.now in
    let l = c.args.line in
    let old = c.args.self.now in
    let kept = sym c.is_shut.ensures ∙ c.if-is_shut.false in
    let among = fits-among case s ls l old old h fits kept in
    let kept_len = old.lines.ok.0 in
    let kept_room = old.lines.ok.1 in
    let kept_small = old.lines.small in
    let small : length old.lines.items < 2 ^ 64 = omega (arith, kept_len, kept_room, kept_small) in
    let counted = is-counted old.lines.items old.steps.items l h.tracks small in
    let grown = c.in_ok-refused.ensures.steps counted in
    let told =
    c.in_ok-refused.ensures.refused counted
    ∙ shuts old.lines.items old.steps.items l h.tracks small among case s (parent-among case s ls l old old h fits kept)
    ∙ ap (is_shutting (is_refused case s)) (placed-among case s ls l old old h fits kept) in
    sifts-kept case s ls l old _ h fits kept c.in_ok-push.ensures.items (c.shut_by-self.ensures ∙ ap (λ t. shut_by t l.depth) told)
    (subst (λ ss. Tracks (old.lines.items ++ l ∷ []) ss) (sym grown) (tracks-more old.lines.items old.steps.items l h.tracks small among))
