use Rattle.{std.{proofs.Common.{◌≡◌, Err, true, refl, sym, subst}, specs.Option.is_some}, hub_http.specs.{Replies.fault_status, Serving.{Gathers, HasRead}}}
use Rattle.hub_http.proofs.serve.serve_one.Goals as goal

pub returns-in-Ok-write_fault-clause-served : goal.returns-in-Ok-write_fault-clause-served
returns-in-Ok-write_fault-clause-served g c =
    let before = g.R.Read.remaining c.args.reader.now in
    let after = g.R.Read.remaining c.gather.new.reader in
    let read =
    subst (λ f. HasRead before after (Err f) × (is_some (fault_status f) ≡ true)) (sym c.in-Err-Wire.fault-is)
    (subst (λ e. Gathers before after (Err e)) c.in-Err-Wire.field-0-is c.in-Err-Wire.ensures) in
    (read.0, read.1, c.in-Ok-write_fault.ensures, refl)
