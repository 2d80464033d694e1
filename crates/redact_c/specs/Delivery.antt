-- What a caller in C gets: a number, the length of an answer, and the answer in bytes that the caller hands in.
use Rattle.std.specs.Prelude.{◌≡◌, ◌≢◌, ℕ, ◌≤◌, ◌<◌, List, [], ◌∷◌, ◌++◌, length, drop, map, Ok, Err, IfOk}
use Rattle.std.specs.List.{flat_map}
use Rattle.redaction.specs.Faults.{fault_number}
use Rattle.redaction.specs.Outcome.{Read}
use Rattle.redaction.specs.declared.fault.Fault.TheVariants.{NoMemory}
use Rattle.redact_c.specs.declared.delivery.Asked.{Asked}

-- the number that a call returns: 0 for an answer, and a fault's number for a fault
abbrev pub number_for : {A : Type 0} → Read A → ℕ
number_for (Ok answer) = 0
number_for (Err e) = fault_number e

-- An answer in the caller's bytes: if it fits, they begin with it; if not, they are as they were.
pub record Placed (text : List ℕ) (needed : ℕ) (before after : List ℕ) : Type 0 where
  pub counted : needed ≡ length text
  pub fits : length text ≤ length before → after ≡ text ++ drop (length text) before
  pub too_long : length before < length text → after ≡ before

-- The number that a call returned, the length that it set, and the caller's bytes before and after it, given the
-- answer that was wanted.
pub record Delivers (number needed : ℕ) (before after : List ℕ) (wanted : Read (List ℕ)) : Type 0 where
  -- NoMemory may replace any answer
  pub numbered : number ≢ fault_number NoMemory → number ≡ number_for wanted
  pub answered : number ≡ 0 → IfOk wanted (λ text. Placed text needed before after)
  pub uncounted : number ≢ 0 → needed ≡ 0
  pub untouched : number ≢ 0 → after ≡ before

-- ---- several views

-- the view descriptions of several views
abbrev pub descriptions_of : List Asked → List (List ℕ)
descriptions_of asked = map (λ a. a.view.now) asked

-- the text of an answer; none of a fault
abbrev pub text_of : Read (List ℕ) → List ℕ
text_of (Ok text) = text
text_of (Err e) = []

-- a view with what is told of it: the number of its fault, and the length of its answer
abbrev pub told : Asked → Read (List ℕ) → Asked
told a answer = record a { needed = length (text_of answer); fault = number_for answer }

-- each view with what is told of its answer
abbrev pub told_each : List Asked → List (Read (List ℕ)) → List Asked
told_each [] answers = []
told_each (a ∷ rest) [] = []
told_each (a ∷ rest) (r ∷ rs) = told a r ∷ told_each rest rs

-- a view with the number of a call's fault
abbrev pub refused : ℕ → Asked → Asked
refused number a = record a { needed = 0; fault = number }

-- What a call over several views delivered, given the answers that were wanted, one for each view: the views before and
-- after it, and the caller's bytes, which get the texts one behind the other.
pub record DeliversEach
    (number needed : ℕ) (asked after_asked : List Asked) (before after : List ℕ) (wanted : Read (List (Read (List ℕ)))) : Type 0 where
  -- NoMemory may replace all answers
  pub numbered : number ≢ fault_number NoMemory → number ≡ number_for wanted
  pub each_told : number ≡ 0 → IfOk wanted (λ answers. after_asked ≡ told_each asked answers)
  pub answered : number ≡ 0 → IfOk wanted (λ answers. Placed (flat_map text_of answers) needed before after)
  pub each_refused : number ≢ 0 → after_asked ≡ map (refused number) asked
  pub uncounted : number ≢ 0 → needed ≡ 0
  pub untouched : number ≢ 0 → after ≡ before
