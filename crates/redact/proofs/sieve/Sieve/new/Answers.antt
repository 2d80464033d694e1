use Rattle.{std.proofs.Common.{[], None, sym, refl, subst}, redact.{proofs.{Sifting.sifts-none, Tracking.tracks-none}, specs.Sifted.Tracks}}
use Rattle.redact.specs.declared.sieve.Sieve.{Sieve}
use Rattle.redact.proofs.sieve.Sieve.new.Goals as goal

pub returns : goal.returns
returns c = λ k s.
    let sieve : Sieve = record { steps = c.new.result; lines = c.new-2.result; shut = None } in
    sifts-none k s sieve c.new-2.ensures.items refl (subst (λ ss. Tracks [] ss) (sym c.new.ensures.items) tracks-none)
