-- The answers of `decide`.
use Rattle.std.specs.Prelude.{◌≡◌, List, Option, Some, None, if◌then◌else◌, Result, Ok, Err}
use Rattle.iodef_tree.specs.Text.{Tokens}
use Rattle.iodef_tree.specs.Paths.{LocatedLine, has_class}
use Rattle.policy.specs.Verdict.{verdict_of}
use Rattle.policy.specs.declared.standing.Standing.{Standing}
use Rattle.policy.specs.declared.case.Case.{Case}
use Rattle.policy.specs.declared.verdict.Verdict.{Verdict}
use Rattle.policy.specs.declared.fault.DecideFault.{DecideFault}
use Rattle.policy.specs.declared.fault.DecideFault.TheVariants.{NoClass, NoMemory}

-- the verdict of the class at the path; none if there is no class there
abbrev pub decided_at : List LocatedLine → Case → Standing → Tokens → Option Verdict
decided_at es c s p = if has_class es p then Some (verdict_of es c s p) else None

-- The verdict of the class at the path, or NoClass if there is none. NoMemory may come in place of either.
abbrev pub Decides : Result Verdict DecideFault → List LocatedLine → Case → Standing → Tokens → Type 0
Decides (Ok v) es c s p = decided_at es c s p ≡ Some v
Decides (Err NoClass) es c s p = decided_at es c s p ≡ None
Decides (Err NoMemory) es c s p = Unit {0}
