use Rattle.{std.{proofs.Common.ap, specs.Prelude.is_some}, policy.proofs.Refusals.passes-all}
use Rattle.policy.proofs.laws.unrefused_passes_gates.Goals as goal

pub returns : goal.returns
returns c case standing path none = passes-all case standing path (ap is_some none)
