-- What the program prints: for the words, the bytes of the view's file and the bytes of the report.
use Rattle.std.specs.Prelude.{ℕ, ◌++◌, true, false, Option, Some, None, option_copied, option_map, Ok, decimal, codes}
use Rattle.std.specs.Str.{bytes_eq}
use Rattle.iodef_tree.specs.Text.{Bytes}
use Rattle.redaction.specs.Outcome.{Read, ◌>>=◌}
use Rattle.redaction.specs.Answers.{excerpt_text, document_answer, whole_text, explain_text, finds_text, marks_text}
use Rattle.redact_program.specs.declared.answers.Answered.{Answered}
use Rattle.redact_program.specs.declared.answers.Remark.{Remark}
use Rattle.redact_program.specs.declared.answers.Remark.TheVariants.{Nothing, Readable, Found}
use Rattle.redact_program.specs.declared.status.Status.{Status}
use Rattle.redact_program.specs.declared.status.Status.TheVariants.{Done, NotFound}
use Rattle.redact_program.specs.declared.words.Whom.{Whom}
use Rattle.redact_program.specs.declared.words.Whom.TheVariants.{Cleared, Described}
use Rattle.redact_program.specs.declared.words.Form.{Form}
use Rattle.redact_program.specs.declared.words.IncidentId.{IncidentId}
use Rattle.redact_program.specs.declared.words.Asked.{Asked}
use Rattle.redact_program.specs.declared.words.Asked.TheVariants.{Excerpt, Explain, Finds, Marks}
use Rattle.redact_program.specs.declared.words.Form.TheVariants as form

-- the beginning of the short form of a clearance: with the place of the Incident
abbrev pub open_form : Bytes → ℕ → Bytes
open_form clearance place = codes "{\"clearance\":\"" ++ clearance ++ codes "\",\"incident\":" ++ decimal place

-- the short form of a clearance, the place of the Incident and, if it is given, the moment
abbrev pub short_form : Bytes → ℕ → Option Bytes → Bytes
short_form clearance place None = open_form clearance place ++ codes "}"
short_form clearance place (Some moment) = open_form clearance place ++ codes ",\"now\":\"" ++ moment ++ codes "\"}"

-- the view description: the bytes of the file if one is named, else the short form
abbrev pub view_told : Whom → Bytes → Bytes
view_told (Described path) file = file
view_told (Cleared c) file = short_form c.clearance.now c.incident (option_copied c.moment)

-- an answer about which nothing else is said
abbrev pub plain : Bytes → Read (Bytes × Remark)
plain text = Ok (text, Nothing)

-- the name and the id of an identifier
abbrev pub id_told : IncidentId → Bytes × Bytes
id_told i = (i.name.now, i.id.now)

-- the document of the excerpt, with whether it can be read as a report
abbrev pub document_told : Bytes → Bytes → Read (Bytes × Remark)
document_told report view = document_answer report view >>= λ d. Ok (d.0, Readable d.1)

-- what a reader may see, in one of its forms
abbrev pub excerpt_told : Form → Bytes → Bytes → Read (Bytes × Remark)
excerpt_told form.Answer report view = excerpt_text report view >>= plain
excerpt_told form.Document report view = document_told report view
excerpt_told (form.Report id) report view = whole_text report view (option_map id_told id) >>= plain

-- whether a reader finds a text, with whether something was found
abbrev pub finds_told : Bytes → Bytes → Bytes → Option Bytes → Read (Bytes × Remark)
finds_told report view needle class = finds_text report view needle class >>= λ t. Ok (t, Found (bytes_eq t (codes "true")))

-- The answer about the report with what else is said of it, or the first fault.
abbrev pub answer_told : Asked → Bytes → Bytes → Read (Bytes × Remark)
answer_told (Excerpt whom f) file report = excerpt_told f report (view_told whom file)
answer_told (Explain whom pointer) file report = explain_text report (view_told whom file) pointer.now >>= plain
answer_told (Finds whom needle class) file report = finds_told report (view_told whom file) needle.now (option_copied class)
answer_told (Marks incident) file report = marks_text report incident >>= plain

-- what the program's `Answered` holds
abbrev pub answer_by : Answered → Bytes × Remark
answer_by a = (a.text.items, a.remark)

-- how the program ends if it has printed an answer: not found only if a search found nothing
abbrev pub remark_status : Remark → Status
remark_status Nothing = Done
remark_status (Readable b) = Done
remark_status (Found true) = Done
remark_status (Found false) = NotFound
