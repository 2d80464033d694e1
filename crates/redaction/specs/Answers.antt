-- The answers about a report.
use Rattle.std.specs.Prelude.{ℕ, List, [], ◌∷◌, ◌++◌, map, Bool, if◌then◌else◌, Option, None, unwrap_or, Ok, codes}
use Rattle.std.specs.List.{flat_map}
use Rattle.std.specs.declared.alloc.Global.{Global}
use Rattle.std.specs.declared.vec.Vec.{Vec}
use Rattle.serde_json.specs.Data.{Data, boolean, number, unsigned, string, array, object, no_members, member}
use Rattle.serde_json.specs.View.{items_of}
use Rattle.serde_json.specs.Written.{compact_text}
use Rattle.iodef_tree.specs.Text.{Bytes, Tokens}
use Rattle.iodef_tree.specs.Json.{data_of}
use Rattle.iodef_tree.specs.Paths.{LocatedLine, located, class_paths}
use Rattle.iodef_tree.specs.Pointer.{pointer_text}
use Rattle.iodef_tree.specs.declared.line.Line.{Line}
use Rattle.marking.specs.Label.{handling_of, name_of as handling_name, text_of}
use Rattle.marking.specs.Marks.{Marked, marked_at}
use Rattle.marking.specs.declared.label.Handling.{Handling}
use Rattle.policy.specs.Rule.{name_of as rule_name}
use Rattle.policy.specs.declared.rule.Rule.{Rule}
use Rattle.redact.specs.Told.{Told, excerpt_of, finds}
use Rattle.explain.specs.Explanation.{Explanation}
use Rattle.explain.specs.Explained.{explained_at}
use Rattle.explain.specs.Lines.{trace_text}
use Rattle.redaction.specs.Outcome.{Read, ◌>>=◌, or_fault, both}
use Rattle.redaction.specs.Readings.{without_place}
use Rattle.redaction.specs.Values.{path_of}
use Rattle.redaction.specs.Described.{described, described_dated}
use Rattle.redaction.specs.Highest.{highest, tlp_name}
use Rattle.redaction.specs.Readable.{is_readable}
use Rattle.redaction.specs.Words.{word_of, some_word_of}
use Rattle.redaction.specs.Whole.{some_id_of, whole_of}
use Rattle.redaction.specs.Asked.{asked_of, incident_of, reported}
use Rattle.redaction.specs.declared.asked.Asked.{Asked}
use Rattle.redaction.specs.declared.excerpting.ExcerptDocument.{ExcerptDocument}
use Rattle.redaction.specs.declared.view.View.{View}
use Rattle.redaction.specs.declared.fault.Fault.TheVariants.{NoClass, NothingVisible}

-- ---- the excerpt

-- one pair of the list `withheld`: the JSON pointer of a place in the excerpt (RFC 6901), and the name of the rule
abbrev pub withheld_pair : Tokens × Rule → Data
withheld_pair pair = array (items_of (string (pointer_text pair.0) ∷ string (rule_name pair.1) ∷ []))

-- The JSON object of an excerpt: how many classes are visible, its document, its highest label, given what is arranged
-- with the reader's organisation, whether the document is a report again, and the list of what is withheld.
abbrev pub excerpt_object : Option Handling → Told → Data
excerpt_object arranged t =
    object (member (codes "classes") (number (unsigned t.classes))
    (member (codes "document") (object (data_of t.outline))
    (member (codes "label") (string (tlp_name (highest arranged t.outline)))
    (member (codes "readable") (boolean (is_readable t.outline))
    (member (codes "withheld") (array (items_of (map withheld_pair t.withheld))) no_members)))))

-- what the reader of a view may see of the Incident, or NothingVisible if no class is visible
unfoldable pub told_by_view : Bytes → View → Read Told
told_by_view report view = do
  asked ← asked_of report view
  or_fault NothingVisible (excerpt_of asked.document asked.case asked.reader)

-- the same for the view of a description, or the first fault
unfoldable pub told_of : Bytes → Bytes → Read Told
told_of report description = do
  view ← described description
  told_by_view report view

-- the compact JSON of the excerpt for the reader of a view description, or the first fault
unfoldable pub excerpt_text : Bytes → Bytes → Read Bytes
excerpt_text report description = do
  view ← described description
  told ← told_by_view report view
  Ok (compact_text (excerpt_object view.reader.arrangement told))

-- The same for each of several view descriptions, in their order: the compact JSON of its excerpt, or its first fault.
-- A fault of the report comes before all faults of the descriptions, and is the only answer.
unfoldable pub excerpt_texts : Bytes → List Bytes → Read (List (Read Bytes))
excerpt_texts report descriptions = do
  _ ← reported report
  Ok (map (excerpt_text report) descriptions)

-- what an answer of the program holds
abbrev pub text_by : Read (Vec ℕ Global) → Read Bytes
text_by answer = answer >>= λ text. Ok text.items

-- what its list of answers holds
abbrev pub texts_by : List (Read (Vec ℕ Global)) → List (Read Bytes)
texts_by answers = map text_by answers

-- the compact JSON of the document of an excerpt, and whether it is a report again
abbrev pub document_of : Told → Bytes × Bool
document_of t = (compact_text (object (data_of t.outline)), is_readable t.outline)

-- the same of the excerpt for the reader of a view description, or the first fault
unfoldable pub document_answer : Bytes → Bytes → Read (Bytes × Bool)
document_answer report description = do
  told ← told_of report description
  Ok (document_of told)

-- what the program's `ExcerptDocument` holds
abbrev pub document_by : ExcerptDocument → Bytes × Bool
document_by d = (d.text.items, d.readable)

-- the compact JSON of the document of the excerpt alone, or the first fault
abbrev pub document_text : Bytes → Bytes → Read Bytes
document_text report description = document_answer report description >>= λ d. Ok d.0

-- the outline of the excerpt for the reader of a view, made a report again for the view's moment; or the first fault
unfoldable pub whole_by_view : Bytes → View → Option (Bytes × Bytes) → Read (List Line)
whole_by_view report view id = do
  told ← told_by_view report view
  whole_of (unwrap_or view.said []) id told.outline

-- the compact JSON of the same for a view description, or the first fault
unfoldable pub whole_text : Bytes → Bytes → Option (Bytes × Bytes) → Read Bytes
whole_text report description id = do
  view ← described_dated description
  given ← some_id_of id
  outline ← whole_by_view report view given
  Ok (compact_text (object (data_of outline)))

-- ---- the search

-- a truth value as JSON writes it
abbrev pub truth_text : Bool → Bytes
truth_text b = if b then codes "true" else codes "false"

-- whether a class that the reader may see, of this name if one is given, directly holds a text with the needle; or the
-- first fault
unfoldable pub finds_text : Bytes → Bytes → Bytes → Option Bytes → Read Bytes
finds_text report description needle class = do
  view ← described description
  text ← word_of needle
  name ← some_word_of class
  asked ← asked_of report view
  Ok (truth_text (finds asked.document asked.case asked.reader text name))

-- ---- the explanation

-- the path of which the bytes are the JSON pointer, or NotUtf8 or BadPointer
unfoldable pub pointer_of : Bytes → Read Tokens
pointer_of bytes = do
  text ← word_of bytes
  without_place (path_of text)

-- why the reader sees the class at the path, or doesn't; NoClass if there is no class
abbrev pub explained : Asked → Tokens → Read Explanation
explained asked path = or_fault NoClass (explained_at (located asked.document) asked.case asked.reader path)

-- the lines of the explanation, or the first fault
unfoldable pub explain_text : Bytes → Bytes → Bytes → Read Bytes
explain_text report description pointer = do
  words ← both (described description) (pointer_of pointer)
  asked ← asked_of report words.0
  explanation ← explained asked words.1
  Ok (trace_text explanation)

-- ---- the labels

-- the compact JSON array of a class: its path, its label, how the label is handled if nothing is arranged, and its
-- site
abbrev pub mark_row : Marked → Data
mark_row t =
    array (items_of (string t.path ∷ string (text_of t.label) ∷ string (handling_name (handling_of t.label None)) ∷ string t.site ∷ []))

-- the line of a class: that array and a newline
abbrev pub mark_line : Marked → Bytes
mark_line t = compact_text (mark_row t) ++ 10 ∷ []

-- a line for each class of a document, in stored order
abbrev pub mark_lines : List LocatedLine → Bytes
mark_lines es = flat_map mark_line (map (marked_at es) (class_paths es))

-- the lines of the classes of the Incident at a place, or the first fault
unfoldable pub marks_text : Bytes → ℕ → Read Bytes
marks_text report place = do
  document ← incident_of report place
  Ok (mark_lines (located document))
