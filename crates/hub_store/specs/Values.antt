-- Numbers and flags as values of SQL.
use Rattle.std.specs.Prelude.{ℕ, ℤ, pos, Bool, if◌then◌else◌, Option, Some, None}
use Rattle.sqlite_value.specs.declared.value.Value.{Value}
use Rattle.sqlite_value.specs.declared.value.Value.TheVariants.{Null, Int}

-- the number, or NULL if there is none
abbrev pub number_or_null : Option ℕ → Value
number_or_null None = Null
number_or_null (Some n) = Int (pos n)

-- the moment, or NULL if there is none
abbrev pub moment_or_null : Option ℤ → Value
moment_or_null None = Null
moment_or_null (Some moment) = Int moment

-- 1 if it is set, and otherwise 0
abbrev pub flag : Bool → Value
flag b = Int (if b then pos 1 else pos 0)
