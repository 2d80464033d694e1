use Rattle.{std.proofs.Common.◌∙◌, redact.proofs.Ends.only-root}
use Rattle.redact.proofs.gate_refusals.is_root.Goals as goal

pub returns : goal.returns
returns c = c.is_empty.ensures ∙ only-root c.args.path.now
