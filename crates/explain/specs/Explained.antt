-- The answers of `explain`.
use Rattle.std.specs.Prelude.{◌≡◌, List, Option, Some, None, if◌then◌else◌, Result, Ok, Err}
use Rattle.iodef_tree.specs.Text.{Tokens}
use Rattle.iodef_tree.specs.Paths.{LocatedLine, has_class}
use Rattle.marking.specs.declared.fault.SiteFault.{SiteFault}
use Rattle.policy.specs.declared.fault.DecideFault.{DecideFault}
use Rattle.policy.specs.declared.standing.Standing.{Standing}
use Rattle.policy.specs.declared.case.Case.{Case}
use Rattle.explain.specs.Explanation.{Explanation, explanation_of, explanation}
use Rattle.explain.specs.declared.trace.Trace.{Trace}
use Rattle.explain.specs.declared.fault.ExplainFault.{ExplainFault}
use Rattle.explain.specs.declared.fault.ExplainFault.TheVariants.{NoClass, NoMemory}
use Rattle.marking.specs.declared.fault.SiteFault.TheVariants as site
use Rattle.policy.specs.declared.fault.DecideFault.TheVariants as decide

-- the explanation of the class at the path; none if there is no class there
abbrev pub explained_at : List LocatedLine → Case → Standing → Tokens → Option Explanation
explained_at es c s p = if has_class es p then Some (explanation_of es c s p) else None

-- The explanation of the class at the path, or NoClass if there is none. NoMemory may come in place of either.
abbrev pub Explains : Result Trace ExplainFault → List LocatedLine → Case → Standing → Tokens → Type 0
Explains (Ok t) es c s p = explained_at es c s p ≡ Some (explanation t)
Explains (Err NoClass) es c s p = explained_at es c s p ≡ None
Explains (Err NoMemory) es c s p = Unit {0}

-- a fault of the verdict as a fault of the explanation: without a verdict there is no class
abbrev pub undecided : DecideFault → ExplainFault
undecided decide.NoClass = NoClass
undecided decide.NoMemory = NoMemory

-- a fault of the site as a fault of the explanation: without a site there is no class
abbrev pub unsited : SiteFault → ExplainFault
unsited site.NoClass = NoClass
unsited site.NoMemory = NoMemory
