use Rattle.std.proofs.Common.{rules, append_assoc}
use Rattle.hub_core.proofs.judging.body.fault_text.Goals as goal

pub returns-in_ok-pointer-in-Missing : goal.returns-in_ok-pointer-in-Missing
returns-in_ok-pointer-in-Missing c = rw c.in-Missing.is (simp append_assoc (search rules))
