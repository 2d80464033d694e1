-- The exit status of the program.
use Rattle.std.specs.Prelude.{ℕ}
use Rattle.hub_service.specs.declared.status.Status.{Status}
use Rattle.hub_service.specs.declared.status.Status.TheVariants.{Done, Refused, Usage, Failed}

-- the exit status of an outcome: 0 done, 1 refused, 2 usage, 3 failed
abbrev pub exit_status : Status → ℕ
exit_status Done = 0
exit_status Refused = 1
exit_status Usage = 2
exit_status Failed = 3
