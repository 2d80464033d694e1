-- The result of a reading: a value, or the first fault in the order.
use Rattle.std.specs.Prelude.{◌≡◌, ◌≢◌, Bool, if◌then◌else◌, Option, Some, None, Result, Ok, Err}
use Rattle.redaction.specs.Faults.{earlier}
use Rattle.redaction.specs.declared.fault.Fault.{Fault}
use Rattle.redaction.specs.declared.fault.Fault.TheVariants.{NoMemory}

-- a value, or a fault
abbrev pub Read : Type 0 → Type 0
Read A = Result A Fault

-- One reading after another: the second is done only if the first has no fault.
infixl 10 ◌>>=◌
abbrev pub ◌>>=◌ : {A B : Type 0} → Read A → (A → Read B) → Read B
(Ok x) >>= f = f x
(Err e) >>= f = Err e

-- Two readings side by side: both are done, and of two faults the earlier in the order is returned.
abbrev pub both : {A B : Type 0} → Read A → Read B → Read (A × B)
both (Ok x) (Ok y) = Ok (x, y)
both (Ok x) (Err f) = Err f
both (Err e) (Ok y) = Err e
both (Err e) (Err f) = Err (earlier e f)

-- the value if there is one, else this fault
abbrev pub or_fault : {A : Type 0} → Fault → Option A → Read A
or_fault e (Some x) = Ok x
or_fault e None = Err e

-- this fault, unless the test holds
abbrev pub require : Bool → Fault → Read (Unit {0})
require b e = if b then Ok tt else Err e

-- A call returned what is wanted, seen by `view`, unless memory ran out.
abbrev pub YieldsAs : {A B : Type 0} → (A → B) → Read A → Read B → Type 0
YieldsAs view (Ok x) wanted = wanted ≡ Ok (view x)
YieldsAs view (Err e) wanted = e ≢ NoMemory → wanted ≡ Err e

-- A call returned what is wanted, unless memory ran out.
abbrev pub Yields : {A : Type 0} → Read A → Read A → Type 0
Yields answer wanted = YieldsAs (λ x. x) answer wanted
