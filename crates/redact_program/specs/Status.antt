-- The exit status of the program.
use Rattle.std.specs.Prelude.{ℕ}
use Rattle.redact_program.specs.declared.status.Status.{Status}
use Rattle.redact_program.specs.declared.status.Status.TheVariants.{Done, Refused, Usage, Failed, NotFound}

-- 0 done, 1 refused, 2 usage, 3 failed, 4 not found
abbrev pub exit_status : Status → ℕ
exit_status Done = 0
exit_status Refused = 1
exit_status Usage = 2
exit_status Failed = 3
exit_status NotFound = 4
