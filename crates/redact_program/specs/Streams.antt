-- What is read from a reader and written to a writer, where their bytes are known.
use Rattle.std.specs.Prelude.{◌≡◌, List, [], ◌∷◌, ◌++◌, ◌≤◌, ◌⊎◌, length, Option, Some, IfSome, Result, Ok, Err}
use Rattle.std.specs.Io.KnownBytes.{Appends, Consumes, IsAtEnd}
use Rattle.std.specs.Borrow.{Bor}
use Rattle.std.specs.declared.io.ErrorKind.{ErrorKind}
use Rattle.iodef_tree.specs.Text.{Bytes}
use Rattle.redact_program.specs.declared.input.TheConstants.{INPUT_LIMIT}
use Rattle.redact_program.specs.declared.status.Status.{Status}
use Rattle.redact_program.specs.declared.status.Status.TheVariants.{Failed}

-- what reading gave: bytes, or the kind of the error
abbrev pub Given : Type 0
Given = Result Bytes ErrorKind

-- a result with its value seen by f
abbrev pub ok_by : {A B E : Type 0} → (A → B) → Result A E → Result B E
ok_by f (Ok x) = Ok (f x)
ok_by f (Err e) = Err e

-- what bytes behind a reference give, or an error
abbrev pub copied_content : Result (Bor Bytes) ErrorKind → Given
copied_content (Ok b) = Ok b.now
copied_content (Err kind) = Err kind

-- ---- reading

-- some bytes were read
abbrev pub Takes : Option Bytes → Option Bytes → Type 0
Takes before after = (bytes : Bytes) × Consumes before after bytes

-- these bytes were read, all that there are or more than the limit; a failed read may have taken some
abbrev pub Reads : Option Bytes → Option Bytes → Given → Type 0
Reads before after (Ok bytes) = Consumes before after bytes × (length bytes ≤ INPUT_LIMIT → IsAtEnd after)
Reads before after (Err kind) = Takes before after

-- the old bytes and then those that were read are the new ones
abbrev pub Extends : Option Bytes → Option Bytes → Bytes → Bytes → Type 0
Extends before after old new = (piece : Bytes) × Consumes before after piece × (new ≡ old ++ piece)

-- the name comes behind those that were opened before, or it wasn't for want of memory
abbrev pub Logs : Option (List Bytes) → Option (List Bytes) → Bytes → Type 0
Logs before after name = IfSome before (λ names. (after ≡ Some (names ++ name ∷ [])) ⊎ (after ≡ Some names))

-- ---- writing

-- the list begins with these
abbrev pub Begins : {A : Type 0} → List A → List A → Type 0
Begins {A} all these = (rest : List A) × (all ≡ these ++ rest)

-- a beginning of the text was written
abbrev pub AppendsSome : Option Bytes → Option Bytes → Bytes → Type 0
AppendsSome before after text = (bytes : Bytes) × Appends before after bytes × Begins text bytes

-- the text was written, or a beginning of it if that failed
abbrev pub Writes : {X E : Type 0} → Option Bytes → Option Bytes → Bytes → Result X E → Type 0
Writes before after text (Ok x) = Appends before after text
Writes before after text (Err e) = AppendsSome before after text

-- the text was written, and the program ends as wanted; or it failed behind a beginning of the text
abbrev pub Tells : Option Bytes → Option Bytes → Bytes → Status → Status → Type 0
Tells before after text wanted status =
    (Appends before after text × (status ≡ wanted)) ⊎ (AppendsSome before after text × (status ≡ Failed))
