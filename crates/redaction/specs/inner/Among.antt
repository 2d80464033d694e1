-- What the definitions of Asked and Answers say from the documents of a report on.
use Rattle.std.specs.Prelude.{List, slice_get, Ok}
use Rattle.serde_json.specs.Written.{compact_text}
use Rattle.iodef_tree.specs.Text.{Bytes}
use Rattle.iodef_tree.specs.Paths.{located}
use Rattle.iodef_tree.specs.declared.line.Line.{Line}
use Rattle.redact.specs.Told.{Told, excerpt_of}
use Rattle.redaction.specs.Answers.{excerpt_object}
use Rattle.redaction.specs.Asked.{case_stands}
use Rattle.redaction.specs.Described.{described}
use Rattle.redaction.specs.Outcome.{Read, ◌>>=◌, or_fault, require}
use Rattle.redaction.specs.declared.view.View.{View}
use Rattle.redaction.specs.declared.fault.Fault.TheVariants.{NoIncident, NoClass, NothingVisible}

-- the document of the Incident that the view names
abbrev pub document_among : List (List Line) → View → Read (List Line)
document_among documents view = do
  document ← or_fault NoIncident (slice_get documents view.incident)
  _ ← require (case_stands (located document) view.case) NoClass
  Ok document

-- what the reader of a view may see of that Incident
unfoldable pub told_among : List (List Line) → View → Read Told
told_among documents view = do
  document ← document_among documents view
  or_fault NothingVisible (excerpt_of document view.case view.reader)

-- the compact JSON of the excerpt for the reader of a view description
unfoldable pub text_among : List (List Line) → Bytes → Read Bytes
text_among documents description = do
  view ← described description
  told ← told_among documents view
  Ok (compact_text (excerpt_object view.reader.arrangement told))
