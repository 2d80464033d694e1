-- The state of several readings when some of them are done.
use Rattle.std.specs.Prelude.{List, [], ◌∷◌, ◌++◌, Option, Some, None, Ok, Err}
use Rattle.redaction.specs.Readings.{Reading, earlier_of}
use Rattle.redaction.specs.declared.place.Refusal.{Refusal}

-- the earlier of the fault so far and one more
abbrev pub noted : Option Refusal → Refusal → Refusal
noted None e = e
noted (Some first) e = earlier_of first e

-- the value, unless there is a fault
abbrev pub unless : {A : Type 0} → Option Refusal → A → Reading A
unless None x = Ok x
unless (Some e) x = Err e

-- the fault and the values so far, after one more reading
abbrev pub collected : {A : Type 0} → Option Refusal × List A → Reading A → Option Refusal × List A
collected s (Ok x) = (s.0, s.1 ++ x ∷ [])
collected s (Err e) = (Some (noted s.0 e), s.1)
