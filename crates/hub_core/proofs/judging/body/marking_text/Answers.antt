use Rattle.std.proofs.Common.{rules, append_assoc}
use Rattle.hub_core.proofs.judging.body.marking_text.Goals as goal

pub returns : goal.returns
returns c = simp append_assoc (search rules)
