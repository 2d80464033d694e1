-- The answers of `check`.
use Rattle.std.specs.Prelude.{◌≡◌, Option, Some, None, Result, Ok, Err}
use Rattle.iodef_tree.specs.Text.{Tokens}
use Rattle.marking.specs.declared.fault.MarkingFault.{MarkingFault}
use Rattle.marking.specs.declared.fault.MarkingFault.TheVariants.{BadMarking, NoMemory}

-- Ok if no class breaks the marking rule, else the path of the first that does. NoMemory may come in place of either.
abbrev pub Checks : Result (Unit {0}) MarkingFault → Option Tokens → Type 0
Checks (Ok done) bad = bad ≡ None
Checks (Err (BadMarking path)) bad = bad ≡ Some path
Checks (Err NoMemory) bad = Unit {0}
