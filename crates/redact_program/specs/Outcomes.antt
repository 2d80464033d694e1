-- What a start prints: for what its words ask, and what the view's file and standard input give.
use Rattle.std.specs.Prelude.{◌≡◌, ◌⊎◌, [], ◌∷◌, ◌++◌, ◌==◌, Bool, true, false, not, Option, Some, None, Result, Ok, Err, codes, decimal, length, take, drop}
use Rattle.std.specs.Prelude.{if◌then◌else◌}
use Rattle.std.specs.Str.{bytes_eq}
use Rattle.input_hints.specs.Marks.{mark_of}
use Rattle.iodef_tree.specs.Text.{Bytes}
use Rattle.redaction.specs.Faults.{fault_number}
use Rattle.redaction.specs.Locating.{first_fault_text}
use Rattle.redaction.specs.Outcome.{Read}
use Rattle.redaction.specs.declared.fault.Fault.{Fault}
use Rattle.redaction.specs.declared.fault.Fault.TheVariants.{NoMemory}
use Rattle.redact_program.specs.Answers.{answer_by, answer_told, view_told, short_form, remark_status}
use Rattle.redact_program.specs.Streams.{Given}
use Rattle.redact_program.specs.Troubles.{trouble_of, trouble_text, trouble_status, report_read, view_read}
use Rattle.redact_program.specs.declared.answers.Answered.{Answered}
use Rattle.redact_program.specs.declared.answers.Remark.{Remark}
use Rattle.redact_program.specs.declared.output.Located.{Located}
use Rattle.redact_program.specs.declared.answers.Remark.TheVariants.{Nothing, Readable, Found}
use Rattle.redact_program.specs.declared.status.Status.{Status}
use Rattle.redact_program.specs.declared.trouble.Trouble.{Trouble}
use Rattle.redact_program.specs.declared.trouble.Trouble.TheVariants.{NoAnswer}
use Rattle.redact_program.specs.declared.words.Whom.{Whom}
use Rattle.redact_program.specs.declared.words.Whom.TheVariants.{Cleared, Described}
use Rattle.redact_program.specs.declared.words.Asked.{Asked}
use Rattle.redact_program.specs.declared.words.Asked.TheVariants.{Excerpt, Explain, Finds, Marks}
use Rattle.redact_program.specs.declared.words.Form.TheVariants as form

-- an answer with what else is said of it, or why there is none with its place: a JSON pointer into the view or the
-- report, or an empty text
abbrev pub Outcome : Type 0
Outcome = Result (Bytes × Remark) (Trouble × Bytes)

-- what the program's `Located` holds
abbrev pub located_by : Located → Outcome
located_by l = Err (l.trouble, l.place.items)

-- what the program's result holds
abbrev pub outcome_by : Result Answered Located → Outcome
outcome_by (Ok answered) = Ok (answer_by answered)
outcome_by (Err located) = located_by located

-- ---- what the words name

-- the reader, if the words name one
abbrev pub whom_asked : Asked → Option Whom
whom_asked (Excerpt whom f) = Some whom
whom_asked (Explain whom pointer) = Some whom
whom_asked (Finds whom needle class) = Some whom
whom_asked (Marks incident) = None

-- the name of a view's file
abbrev pub file_of : Option Whom → Option Bytes
file_of (Some (Described path)) = Some path.now
file_of (Some (Cleared c)) = None
file_of None = None

-- the name of the view's file, if the words name one
abbrev pub file_named : Asked → Option Bytes
file_named asked = file_of (whom_asked asked)

-- the view description in which faults are located: for labels, which have no reader, that of a stranger
abbrev pub view_located : Asked → Bytes → Bytes
view_located (Excerpt whom f) file = view_told whom file
view_located (Explain whom pointer) file = view_told whom file
view_located (Finds whom needle class) file = view_told whom file
view_located (Marks incident) file = short_form (codes "CLEAR") incident None

-- whether the moment of the view is wanted
abbrev pub is_dated : Asked → Bool
is_dated (Excerpt whom (form.Report id)) = true
is_dated _ = false

-- whether a text begins with no slash (47), as the name of a file
abbrev pub is_unrooted : Bytes → Bool
is_unrooted [] = false
is_unrooted (b ∷ bs) = not (b == 47)

-- whether the word for a pointer does
abbrev pub has_file_for_pointer : Asked → Bool
has_file_for_pointer (Explain whom pointer) = is_unrooted pointer.now
has_file_for_pointer _ = false

-- ---- the outcome

-- the text behind its beginning; nothing if it doesn't begin so
abbrev pub behind : Bytes → Bytes → Bytes
behind begin text = if bytes_eq (take (length begin) text) begin then drop (length begin) text else []

-- the place in the text of the first fault, if that is this fault
abbrev pub place_in : Fault → Bytes → Bytes
place_in fault text = behind (decimal (fault_number fault) ++ codes " ") text

-- the place of a fault, in the view description or the report
abbrev pub place_told : Asked → Bytes → Bytes → Fault → Bytes
place_told asked file report fault =
    place_in fault (first_fault_text (is_dated asked) report (view_located asked file))

-- a fault as a trouble, with its place
abbrev pub refused : Asked → Bytes → Bytes → Fault → Outcome
refused asked file report fault =
    Err (trouble_of fault (mark_of file) (mark_of report) (has_file_for_pointer asked), place_told asked file report fault)

-- the answer, or its first fault as a trouble
abbrev pub answer_or_trouble : Asked → Bytes → Bytes → Read (Bytes × Remark) → Outcome
answer_or_trouble asked file report (Ok answer) = Ok answer
answer_or_trouble asked file report (Err fault) = refused asked file report fault

-- the outcome for the bytes of the view's file, and of the report or why there is none
abbrev pub outcome_about : Asked → Bytes → Result Bytes Trouble → Outcome
outcome_about asked file (Err t) = Err (t, [])
outcome_about asked file (Ok report) = answer_or_trouble asked file report (answer_told asked file report)

-- the bytes of the view's file, or why there are none; empty if the words name no file
abbrev pub file_read : Option Bytes → Given → Result Bytes Trouble
file_read None given = Ok []
file_read (Some name) given = view_read given

-- the same for the view's file that was read, or why it wasn't
abbrev pub outcome_for : Asked → Result Bytes Trouble → Given → Outcome
outcome_for asked (Err t) input = Err (t, [])
outcome_for asked (Ok file) input = outcome_about asked file (report_read input)

-- The outcome for what the words ask, what the view's file gives and what standard input gives.
abbrev pub outcome_of : Asked → Given → Given → Outcome
outcome_of asked file input = outcome_for asked (file_read (file_named asked) file) input

-- want of memory
abbrev pub no_memory : Outcome
no_memory = Err (NoAnswer NoMemory, [])

-- an outcome without its place
abbrev pub unplaced : Outcome → Outcome
unplaced (Ok answer) = Ok answer
unplaced (Err e) = Err (e.0, [])

-- The outcome is the wanted one, or for want of memory that of it or one without its place.
abbrev pub Gives : Outcome → Outcome → Type 0
Gives wanted outcome = (outcome ≡ wanted) ⊎ (outcome ≡ unplaced wanted) ⊎ (outcome ≡ no_memory)

-- ---- what is printed

-- what is printed on standard output and on standard error, and how the program ends
pub record Printed : Type 0 where
  pub output : Bytes
  pub errors : Bytes
  pub status : Status

-- what is said on standard error of an answer
abbrev pub remark_text : Remark → Bytes
remark_text Nothing = []
remark_text (Readable true) = codes "readable\n"
remark_text (Readable false) = codes "not readable\n"
remark_text (Found b) = []

-- what is printed for an outcome: the answer alone on standard output, or the trouble alone on standard error
abbrev pub printed : Outcome → Printed
printed (Ok answer) = record { output = answer.0; errors = remark_text answer.1; status = remark_status answer.1 }
printed (Err e) = record { output = []; errors = trouble_text e.0 e.1; status = trouble_status e.0 }
