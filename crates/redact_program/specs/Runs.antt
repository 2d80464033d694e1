-- A run of the program: what it reads, prints and opens, where that is known.
use Rattle.std.specs.Prelude.{◌≡◌, ◌⊎◌, List, [], Option, Some, None, Result, Ok, Err, IfSome}
use Rattle.std.specs.Io.KnownBytes.{Appends, Keeps}
use Rattle.iodef_tree.specs.Text.{Bytes}
use Rattle.redact_program.specs.Outcomes.{Outcome, Gives, Printed, printed, outcome_of, file_named, file_read}
use Rattle.redact_program.specs.Streams.{Given, Reads, Logs, AppendsSome, Tells}
use Rattle.redact_program.specs.Troubles.{trouble_text}
use Rattle.redact_program.specs.Words.{Asks}
use Rattle.redact_program.specs.declared.status.Status.{Status}
use Rattle.redact_program.specs.declared.status.Status.TheVariants.{Usage, Failed}
use Rattle.redact_program.specs.declared.trouble.Trouble.{Trouble}
use Rattle.redact_program.specs.declared.trouble.Trouble.TheVariants.{WriteFailed}
use Rattle.redact_program.specs.declared.words.Asked.{Asked}

-- Standard output and standard error before and after, and how the program ended: all was printed, or all that could be
-- written. A failed write leaves a beginning.
abbrev pub Prints : Printed → Option Bytes → Option Bytes → Option Bytes → Option Bytes → Status → Type 0
Prints p output now_output errors now_errors status =
    (Appends output now_output p.output × Tells errors now_errors p.errors p.status status)
    ⊎ (AppendsSome output now_output p.output × Tells errors now_errors (trouble_text WriteFailed []) Failed status)

-- standard input before and after, which is read only behind the view
abbrev pub ReadsBehind : Result Bytes Trouble → Option Bytes → Option Bytes → Given → Type 0
ReadsBehind (Err t) before after input = Keeps before after
ReadsBehind (Ok view) before after input = Reads before after input

-- at most the file of this name, if one is named, was opened
abbrev pub OpensAtMost : Option Bytes → Option (List Bytes) → Option (List Bytes) → Type 0
OpensAtMost None before after = after ≡ before
OpensAtMost (Some name) before after = Logs before after name

-- The question of the words is answered: the view's file and standard input gave something, an outcome follows from it,
-- and that is printed. `may_give` says what reading a file may give. Of standard input, standard output and standard
-- error the bytes before and after are here, where they are known.
pub record Answers (may_give : Bytes → Given → Type 0) (asked : Asked)
    (input now_input output now_output errors now_errors : Option Bytes) (status : Status) : Type 0 where
  pub file : Given
  pub report : Given
  pub outcome : Outcome
  pub may : IfSome (file_named asked) (λ name. may_give name file)
  pub reads : ReadsBehind (file_read (file_named asked) file) input now_input report
  pub gives : Gives (outcome_of asked file report) outcome
  pub prints : Prints (printed outcome) output now_output errors now_errors status

-- Nothing is read, opened or answered: the words aren't the program's, or memory ran out.
pub record Refuses (input now_input output now_output : Option Bytes) (opened now_opened : Option (List Bytes))
    (status : Status) : Type 0 where
  pub unread : now_input ≡ input
  pub unprinted : now_output ≡ output
  pub unopened : now_opened ≡ opened
  pub ends : (status ≡ Usage) ⊎ (status ≡ Failed)

-- A run for the words behind the program's name: what they ask is answered, or they are refused.
abbrev pub Runs : (Bytes → Given → Type 0) → List Bytes → Option Bytes → Option Bytes → Option Bytes → Option Bytes → Option Bytes → Option Bytes →
    Option (List Bytes) → Option (List Bytes) → Status → Type 0
Runs may_give words input now_input output now_output errors now_errors opened now_opened status =
    ((asked : Asked) × Asks words asked × OpensAtMost (file_named asked) opened now_opened ×
    Answers may_give asked input now_input output now_output errors now_errors status)
    ⊎ Refuses input now_input output now_output opened now_opened status
