-- What a step of the judge returns for the grounds that it asks.
use Rattle.std.specs.Prelude.{◌≡◌, List, Some, None, Result, Ok, Err}
use Rattle.circle.specs.Refusals.{Ground, first_answer}
use Rattle.hub_core.specs.declared.judging.stop.Stop.{Stop}
use Rattle.hub_core.specs.declared.judging.stop.Stop.TheVariants.{Refused, NoMemory}

-- no ground holds, or the refusal is the answer of the first that does
abbrev pub Asks : {X : Type 0} → List Ground → Result X Stop → Type 0
Asks grounds (Ok x) = first_answer grounds ≡ None
Asks grounds (Err (Refused why)) = first_answer grounds ≡ Some why
Asks grounds (Err NoMemory) = Unit {0}
