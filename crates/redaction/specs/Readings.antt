-- The result of reading a value of a view description: what it says, or the first fault in the order, with its place.
use Rattle.std.specs.Prelude.{◌≡◌, ◌≢◌, nat_lt, Bool, if◌then◌else◌, Option, Some, None, Result, Ok, Err}
use Rattle.redaction.specs.Faults.{fault_number}
use Rattle.redaction.specs.Outcome.{Read}
use Rattle.redaction.specs.Places.{here, inside}
use Rattle.redaction.specs.declared.fault.Fault.{Fault}
use Rattle.redaction.specs.declared.fault.Fault.TheVariants.{NoMemory}
use Rattle.redaction.specs.declared.place.Refusal.{Refusal}
use Rattle.redaction.specs.declared.place.Step.{Step}

-- what a value says, or a fault with its place as seen from that value
abbrev pub Reading : Type 0 → Type 0
Reading A = Result A Refusal

-- a fault of the value itself
abbrev pub refused : Fault → Refusal
refused e = record { fault = e; place = here }

-- a refusal as seen from one step further out
abbrev pub refused_inside : Step → Refusal → Refusal
refused_inside s r = record { fault = r.fault; place = inside s r.place }

-- the refusal with the earlier fault; the first of two with the same fault
abbrev pub earlier_of : Refusal → Refusal → Refusal
earlier_of r s = if nat_lt (fault_number s.fault) (fault_number r.fault) then s else r

-- One reading after another: the second is done only if the first has no fault.
infixl 10 ◌>>=◌
abbrev pub ◌>>=◌ : {A B : Type 0} → Reading A → (A → Reading B) → Reading B
(Ok x) >>= f = f x
(Err r) >>= f = Err r

-- Two readings side by side: both are done, and of two faults the earlier in the order is returned.
infixl 11 ◌&◌
abbrev pub ◌&◌ : {A B : Type 0} → Reading A → Reading B → Reading (A × B)
(Ok x) & (Ok y) = Ok (x, y)
(Ok x) & (Err s) = Err s
(Err r) & (Ok y) = Err r
(Err r) & (Err s) = Err (earlier_of r s)

-- the value if there is one, else this fault
abbrev pub or_fault : {A : Type 0} → Fault → Option A → Reading A
or_fault e (Some x) = Ok x
or_fault e None = Err (refused e)

-- this fault, unless the test holds
abbrev pub require : Bool → Fault → Reading (Unit {0})
require b e = if b then Ok tt else Err (refused e)

-- a reading as seen from one step further out
abbrev pub at : {A : Type 0} → Step → Reading A → Reading A
at s (Ok x) = Ok x
at s (Err r) = Err (refused_inside s r)

-- a reading without the place of its fault
abbrev pub without_place : {A : Type 0} → Reading A → Read A
without_place (Ok x) = Ok x
without_place (Err r) = Err r.fault

-- A call returned what is wanted, seen by `view`, unless memory ran out.
abbrev pub ReadsAs : {A B : Type 0} → (A → B) → Reading A → Reading B → Type 0
ReadsAs view (Ok x) wanted = wanted ≡ Ok (view x)
ReadsAs view (Err r) wanted = r.fault ≢ NoMemory → wanted ≡ Err r

-- A call returned what is wanted, unless memory ran out.
abbrev pub Reads : {A : Type 0} → Reading A → Reading A → Type 0
Reads answer wanted = ReadsAs (λ x. x) answer wanted
