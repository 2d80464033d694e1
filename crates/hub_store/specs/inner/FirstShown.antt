-- The value in the first row of a query of one column.
use Rattle.std.specs.Prelude.{◌≡◌, ℕ, pos, Bool, false, List, [], ◌∷◌}
use Rattle.sqlite_value.specs.declared.value.Value.TheVariants.{Int}
use Rattle.sqlite_value.specs.Order.{Row}
use Rattle.hub_store.specs.inner.Shown.{IsShownBy}
use Rattle.hub_store.specs.Values.{flag}

-- the row of a number
abbrev pub number_shown : ℕ → Row
number_shown n = Int (pos n) ∷ []

-- the row of a flag
abbrev pub flag_shown : Bool → Row
flag_shown b = flag b ∷ []

-- the number in the first row, and 0 if there is no row
abbrev pub ShowsNumberOrZero : List Row → ℕ → Type 0
ShowsNumberOrZero [] n = n ≡ 0
ShowsNumberOrZero (row ∷ rows) n = IsShownBy number_shown row n

-- the flag in the first row, and false if there is no row
abbrev pub ShowsFlagOrFalse : List Row → Bool → Type 0
ShowsFlagOrFalse [] b = b ≡ false
ShowsFlagOrFalse (row ∷ rows) b = IsShownBy flag_shown row b
