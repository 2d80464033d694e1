-- That no pattern is refused is computed, pattern by pattern.
use Rattle.{std.proofs.Common.refl, matchit.proofs.OnLiterals.matchit_on_literals}
use Rattle.hub_http.proofs.routes.router.Goals as goal

pub returns-clause-fault : goal.returns-clause-fault
unfolding matchit_on_literals
returns-clause-fault c = c.router_of.ensures.fault refl
