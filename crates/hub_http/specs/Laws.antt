-- Laws of the definitions, for all values.
use Rattle.std.specs.Prelude.{◌≡◌, ◌≢◌, ℕ, ◌⊎◌, List, ◌++◌, Err}
use Rattle.httparse.specs.Grammar.{NeverHasRequest, EndsInTarget}
use Rattle.hub_http.specs.declared.wire_fault.WireFault.TheVariants.{Truncated}
use Rattle.hub_http.specs.Wire.{Asked, Wire, window}

-- the window ends inside the target, and no bytes after it can make a head
abbrev pub IsOpenTarget : List ℕ → Type 0
IsOpenTarget bytes = EndsInTarget (window bytes) × NeverHasRequest (window bytes)

-- Bytes ask one thing or have one first fault, except in that case.
abbrev pub HasOneAnswer : Type 0
HasOneAnswer = (bytes : List ℕ) (a b : Asked) → Wire bytes a → Wire bytes b → (a ≡ b) ⊎ IsOpenTarget bytes

-- What bytes ask, or a fault of theirs that isn't Truncated, is the same whatever bytes follow.
abbrev pub AnswersStand : Type 0
AnswersStand = (bytes more : List ℕ) (a : Asked) → a ≢ Err Truncated → Wire bytes a → Wire (bytes ++ more) a
