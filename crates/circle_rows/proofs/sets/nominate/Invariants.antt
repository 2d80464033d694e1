use Rattle.{std.proofs.Common.{◌≡◌, ◌++◌, take, drop}, circle.specs.{Aftermath.exchange_account, declared.directory.Person.Person}}
use Rattle.circle_rows.proofs.sets.nominate.Given as goal

abbrev pub invariant-loop-row : goal.invariant-loop-row
invariant-loop-row l = l.row-items ≡ exchange_account l.person (λ (p : Person). record p { nominated = l.nominated }) (take l.row-index l.fn.rows.items) ++ drop l.row-index l.fn.rows.items
