-- The codes for a shelf's faults, and how many replies have them.
use Rattle.std.specs.Prelude.{◌⊎◌, ◌≤◌, ℕ, ◌+◌, Bool, true, false, List, count_by}
use Rattle.circle.specs.declared.refusal.Code.{Code}
use Rattle.circle.specs.declared.refusal.Code.TheVariants.{F1, F2}
use Rattle.hub_core.specs.Shelves.{last_count}
use Rattle.hub_state.specs.declared.reply.Reply.{Reply}
use Rattle.hub_state.specs.declared.reply.Reply.TheVariants.{Refused}
use Rattle.hub_state.specs.declared.shelf.ShelfFault.{ShelfFault}
use Rattle.hub_state.specs.declared.shelf.ShelfFault.TheVariants.{NoMemory, Failed}

-- the code for a shelf's fault: F1 if the store failed, F2 if the memory didn't suffice
abbrev pub code_told : ShelfFault → Code
code_told NoMemory = F2
code_told Failed = F1

-- the code says that the store failed
abbrev pub is_failure : Code → Bool
is_failure F1 = true
is_failure code = false

-- the reply says that the store failed
abbrev pub tells_failure : Reply → Bool
tells_failure (Refused refusal) = is_failure refusal.code
tells_failure reply = false

-- how many of the replies say that the store failed
abbrev pub failures_told : List Reply → ℕ
failures_told replies = count_by tells_failure replies

-- The count of failures rose by so many or more, unless it is at its last value.
abbrev pub AreCounted : ℕ → ℕ → ℕ → Type 0
AreCounted told before now = (before + told ≤ now) ⊎ (last_count ≤ now)
