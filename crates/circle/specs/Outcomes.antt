-- Refusals as answers.
use Rattle.std.specs.Prelude.{◌≡◌, ◌⊎◌, [], Option, Some}
use Rattle.circle.specs.declared.refusal.Code.{Code}
use Rattle.circle.specs.declared.refusal.Code.TheVariants.{F2}
use Rattle.circle.specs.declared.refusal.Refusal.{Refusal}

-- a refusal of this code without a detail
abbrev pub bare : Code → Refusal
bare code = record { code = code; detail = [] }

-- the answer if memory runs out
abbrev pub no_memory : Refusal
no_memory = bare F2

-- the answer is the refusal that is due, unless memory ran out
abbrev pub RefusedAs : Option Refusal → Refusal → Type 0
RefusedAs due answer = (due ≡ Some answer) ⊎ (answer ≡ no_memory)
