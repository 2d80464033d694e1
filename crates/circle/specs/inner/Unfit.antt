-- Why there is no edit.
use Rattle.std.specs.Prelude.{◌≡◌, List, ℕ, Option, Some}
use Rattle.circle.specs.declared.edit.Unfit.{Unfit}
use Rattle.circle.specs.declared.edit.Unfit.TheVariants.{BadField, NoMemory}

-- it is the first bad field, or want of memory
abbrev pub TellsUnfit : Option (List ℕ) → Unfit → Type 0
TellsUnfit due (BadField field) = due ≡ Some field.now
TellsUnfit due NoMemory = Unit {0}
