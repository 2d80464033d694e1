use Rattle.{std.proofs.Common.{◌≡◌, ◌++◌, take, drop}, circle.specs.{Aftermath.exchange_group, declared.directory.Group.Group}}
use Rattle.circle_rows.proofs.sets.switch.Given as goal

abbrev pub invariant-loop-row : goal.invariant-loop-row
invariant-loop-row l = l.row-items ≡ exchange_group l.group (λ (g : Group). record g { active = l.active }) (take l.row-index l.fn.rows.items) ++ drop l.row-index l.fn.rows.items
