-- What the words of the command line ask for. The options and their values are found by `clap`.
use Rattle.std.specs.Prelude.{◌≡◌, ◌≢◌, ◌<◌, ◌^◌, ℕ, List, [], ◌∷◌, true, false, Option, Some, None, option_copied, unwrap_or, is_some, IfSome, IsSomeAnd}
use Rattle.std.specs.Prelude.{IsTrue, codes, pos}
use Rattle.std.specs.Str.Parse.{IsNumeral, digits_value, without_leading_plus}
use Rattle.clap.specs.Words.{App, Row, Rule, Text, first_of, new_app, new_rule, subcommand_of, with_rule, with_subcommand, app_of, rule_of}
use Rattle.clap.specs.declared.builder.ArgAction.TheVariants.{SetTrue}
use Rattle.clap.specs.declared.builder.ValueParser.TheVariants.{Signed}
use Rattle.clap.specs.declared.builder.Arg.{Arg}
use Rattle.clap.specs.declared.builder.Command.{Command}
use Rattle.redaction.specs.Described.{handling_of_name}
use Rattle.redaction.specs.Moments.{is_written}
use Rattle.redact_program.specs.Outcomes.{whom_asked}
use Rattle.redact_program.specs.declared.words.Whom.{Whom}
use Rattle.redact_program.specs.declared.words.Whom.TheVariants.{Cleared, Described}
use Rattle.redact_program.specs.declared.words.Form.{Form}
use Rattle.redact_program.specs.declared.words.IncidentId.{IncidentId}
use Rattle.redact_program.specs.declared.words.Asked.{Asked}
use Rattle.redact_program.specs.declared.words.Asked.TheVariants.{Excerpt, Explain, Finds, Marks}
use Rattle.redact_program.specs.declared.words.Form.TheVariants as form

-- ---- the command line, as `clap` reads it

-- the option --NAME with a value
abbrev pub option : Text → Rule
option name = record (new_rule name) { long = Some name; value_names = 1 }

-- the same if it may not stand beside another one, or has to stand if another one doesn't
abbrev pub bound : Rule → Rule
bound r = record r { is_free = false }

-- such an option
abbrev pub bound_option : Text → Rule
bound_option name = bound (option name)

-- --incident, whose value is a number below 2 ^ 32
abbrev pub incident : Rule
incident = record (option (codes "incident")) { parser = Some (Signed (pos 0) (pos 4294967295)) }

-- --NAME without a value
abbrev pub flag : Text → Rule
flag name = record (new_rule name) { long = Some name; action = Some SetTrue }

-- a word that has to be there
abbrev pub word : Text → Rule
word name = record (new_rule name) { value_names = 1; required = true }

-- the options for a reader: of a clearance, or of a view description
abbrev pub with_reader : App → App
with_reader a = with_rule (with_rule (with_rule a (bound_option (codes "clearance"))) (option (codes "for"))) (bound incident)

-- the options for the identifier and the moment
abbrev pub with_identifier : App → App
with_identifier a = with_rule (with_rule (with_rule a (option (codes "id"))) (option (codes "id-name"))) (bound_option (codes "now"))

-- the command `excerpt`
abbrev pub excerpt_command : App
excerpt_command = with_identifier (with_rule (with_rule (with_reader (new_app (codes "excerpt")))
    (bound (flag (codes "document")))) (flag (codes "whole")))

-- the command `explain`
abbrev pub explain_command : App
explain_command = with_rule (with_reader (new_app (codes "explain"))) (word (codes "pointer"))

-- the command `finds`
abbrev pub finds_command : App
finds_command = with_rule (with_rule (with_reader (new_app (codes "finds"))) (word (codes "text"))) (option (codes "class"))

-- the command `marks`
abbrev pub marks_command : App
marks_command = with_rule (new_app (codes "marks")) incident

-- a program that wants one of its commands
abbrev pub requiring : App → App
requiring a = record a { top = record a.top { subcommand_required = true } }

-- the whole program
abbrev pub program : App
program = with_subcommand (with_subcommand (with_subcommand (with_subcommand (requiring (new_app (codes "iodef-redact")))
    excerpt_command.top) explain_command.top) finds_command.top) marks_command.top

-- `clap`'s value is this argument
abbrev pub IsArg : Arg → Rule → Type 0
IsArg arg rule = (rule_of arg ≡ rule) × (arg.global ≡ false)

-- `clap`'s value is this command
abbrev pub IsCommand : Command → App → Type 0
IsCommand command app = app_of command ≡ app

-- the command line of these words behind the program's name
abbrev pub line_of : List Text → List Text
line_of words = codes "iodef-redact" ∷ words

-- ---- what it asks for

-- the number of an option, 0 if it isn't given
abbrev pub Numbers : Option Text → ℕ → Type 0
Numbers None n = n ≡ 0
Numbers (Some text) n = let digits = without_leading_plus text in
    IsNumeral 10 digits → digits_value 10 digits < 2 ^ 32 → n ≡ digits_value 10 digits

-- the reader: the file of --for, or else the clearance, the place of the Incident and the moment
abbrev pub NamesReader : Option Text → List Row → Whom → Type 0
NamesReader moment rows (Described path) = first_of (codes "for") rows ≡ Some path.now
NamesReader moment rows (Cleared c) = (first_of (codes "for") rows ≡ None) × (c.clearance.now ≡ unwrap_or (first_of (codes "clearance") rows) []) ×
    Numbers (first_of (codes "incident") rows) c.incident × (option_copied c.moment ≡ moment)

-- the identifier, if one is given
abbrev pub NamesId : List Row → Option IncidentId → Type 0
NamesId rows None = first_of (codes "id") rows ≡ None
NamesId rows (Some i) = (first_of (codes "id") rows ≡ Some i.id.now) × (i.name.now ≡ unwrap_or (first_of (codes "id-name") rows) [])

-- whether a flag is given
abbrev pub IsSet : Text → List Row → Type 0
IsSet name rows = first_of name rows ≡ Some (codes "true")

-- the form of an excerpt
abbrev pub NamesForm : List Row → Form → Type 0
NamesForm rows (form.Report id) = IsSet (codes "whole") rows × NamesId rows id
NamesForm rows form.Document = (IsSet (codes "whole") rows → ⊥) × IsSet (codes "document") rows
NamesForm rows form.Answer = (IsSet (codes "whole") rows → ⊥) × (IsSet (codes "document") rows → ⊥)

-- what a command with these options and words asks for
abbrev pub AsksBy : Text → List Row → Asked → Type 0
AsksBy command rows (Excerpt whom f) = (command ≡ codes "excerpt") × NamesReader (first_of (codes "now") rows) rows whom × NamesForm rows f
AsksBy command rows (Explain whom pointer) = (command ≡ codes "explain") × NamesReader None rows whom × (pointer.now ≡ unwrap_or (first_of (codes "pointer") rows) [])
AsksBy command rows (Finds whom needle class) = (command ≡ codes "finds") × NamesReader None rows whom ×
    (needle.now ≡ unwrap_or (first_of (codes "text") rows) []) × (option_copied class ≡ first_of (codes "class") rows)
AsksBy command rows (Marks place) = (command ≢ codes "excerpt") × (command ≢ codes "explain") × (command ≢ codes "finds") ×
    Numbers (first_of (codes "incident") rows) place

-- the clearance has a name, and the moment is written as one; nothing in them needs an escape in a JSON text
abbrev pub IsRight : Option Whom → Type 0
IsRight None = Unit {0}
IsRight (Some (Described path)) = Unit {0}
IsRight (Some (Cleared c)) = IsTrue (is_some (handling_of_name c.clearance.now)) × IfSome (option_copied c.moment) (λ m. IsTrue (is_written m))

-- a command with its options and words asks for this, and what it says of the reader is right
abbrev pub AsksFor : Option (Text × List Row) → Asked → Type 0
AsksFor found asked = IsSomeAnd found (λ c. AsksBy c.0 c.1 asked) × IsRight (whom_asked asked)

-- a command line asks for this
abbrev pub AsksOn : List Text → Asked → Type 0
AsksOn line asked = AsksFor (subcommand_of program line) asked

-- The words behind the program's name ask for this.
abbrev pub Asks : List Text → Asked → Type 0
Asks words asked = AsksOn (line_of words) asked
