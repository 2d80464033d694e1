-- How a text gives a moment, in seconds since the beginning of 1970 (UTC).
use Rattle.std.specs.Prelude.{ℤ, pos, int_div, int_rem, if◌then◌else◌, Result, Ok, Err}
use Rattle.std.specs.Ordering.{int_eq}
use Rattle.iodef_tree.specs.Text.{Bytes}
use Rattle.jiff.specs.Words.{Error, parse_timestamp}
use Rattle.policy.specs.declared.fault.MomentFault.{MomentFault}
use Rattle.policy.specs.declared.fault.MomentFault.TheVariants.{BadMoment}

-- the number of nanoseconds in a second
abbrev pub second : ℤ
second = pos 1_000_000_000

-- the seconds of an instant in nanoseconds, or BadMoment if it is no whole second
abbrev pub whole_second : ℤ → Result ℤ MomentFault
whole_second n = if int_eq (int_rem n second) (pos 0) then Ok (int_div n second) else Err BadMoment

-- the seconds of the instant that was read, or BadMoment
abbrev pub moment_of : Result ℤ Error → Result ℤ MomentFault
moment_of (Ok n) = whole_second n
moment_of (Err e) = Err BadMoment

-- The moment that a text gives: date, time of day and offset from UTC (RFC 3339 section 5.6), to the second. The text
-- is read as `jiff` reads an instant; any other text is BadMoment.
abbrev pub moment_in : Bytes → Result ℤ MomentFault
moment_in text = moment_of (parse_timestamp text)
