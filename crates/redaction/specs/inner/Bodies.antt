-- The bytes that are written of an excerpt.
use Rattle.serde_json.specs.Data.{object}
use Rattle.serde_json.specs.Written.{compact_text}
use Rattle.iodef_tree.specs.Text.{Bytes}
use Rattle.iodef_tree.specs.Json.{data_of}
use Rattle.redact.specs.Excerpts.{told_by}
use Rattle.redaction.specs.Answers.{excerpt_object}
use Rattle.redaction.specs.declared.body.Body.{Body}
use Rattle.redaction.specs.declared.body.Body.TheVariants as body

-- the compact JSON of the whole excerpt, or of its document
abbrev pub body_text : Body → Bytes
body_text (body.Whole excerpt arranged) = compact_text (excerpt_object arranged (told_by excerpt.now))
body_text (body.Document document) = compact_text (object (data_of document.now))
