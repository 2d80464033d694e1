-- Why a store fails to make its tables or to return its version, and the limit on the steps of a statement.
use Rattle.std.specs.Prelude.{◌≡◌, ◌≢◌, ◌==◌, ◌⊎◌, ℕ, false, Option, Some, None, IsSome, if◌then◌else◌}
use Rattle.sqlite_disk.specs.Disk.{MoreFaults}
use Rattle.sqlite.specs.declared.error.Error.{Error}
use Rattle.sqlite.specs.declared.error.Error.TheVariants.{SqliteFailure}
use Rattle.sqlite.specs.State.{State}
use Rattle.sqlite.specs.declared.error.ErrorCode.TheVariants as code

-- the disk failed or refused, the store was shut, or a limit on steps is set
abbrev pub HasReason : State → State → Type 0
HasReason old new = MoreFaults old.faults new.faults ⊎ ((old.is_open ≡ false) ⊎ IsSome old.step_limit)

-- the error is want of memory
abbrev pub IsUnheld : Error → Type 0
IsUnheld e = ¬ (e ≢ SqliteFailure code.OutOfMemory)

-- the limit on the steps of a statement; 0 is no limit
abbrev pub limit_of : ℕ → Option ℕ
limit_of n = if n == 0 then None else Some n
