use Rattle.{std.proofs.Common.{sym, ◌∙◌}, policy.proofs.Onwards.none-left}
use Rattle.policy.proofs.ahead.is_here.Goals as goal

pub returns : goal.returns
returns c = c.is_empty.ensures ∙ sym (none-left c.args.rest.now)
