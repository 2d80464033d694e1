use Rattle.std.proofs.Common.{sym, ◌∙◌}
use Rattle.hub_store.proofs.version.version.Goals as goal

pub returns-in-Err-clause-cause : goal.returns-in-Err-clause-cause
returns-in-Err-clause-cause g c clean is = c.in-Err.ensures.cause clean (λ memory. absurd (let e = sym is ∙ c.fault_of.ensures.1 memory in cc))
