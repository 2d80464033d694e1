-- The laws of the short form of a view, and of what can be read again.
use Rattle.std.specs.Prelude.{◌≡◌, ◌≤◌, List, ◌∷◌, [], true, false, Ok, is_ok, None}
use Rattle.std.specs.Str.{is_utf8}
use Rattle.iodef_tree.specs.Paths.{LocatedLine}
use Rattle.iodef_tree.specs.Reading.{reading}
use Rattle.iodef_tree.specs.Sound.{IsSound}
use Rattle.iodef_tree.specs.Text.{Bytes, Tokens}
use Rattle.iodef_tree.specs.Tree.{Forest, lines}
use Rattle.iodef_tree.specs.declared.line.Line.{Line}
use Rattle.marking.specs.Label.{handling_of, is_at_most}
use Rattle.marking.specs.Marks.{label_at}
use Rattle.marking.specs.declared.label.Handling.{Handling}
use Rattle.policy.specs.Clearance.{clearance_of}
use Rattle.policy.specs.Verdict.{is_visible, refusal_at}
use Rattle.policy.specs.declared.standing.Standing.{Standing}
use Rattle.redact.specs.Told.{Told}
use Rattle.redaction.specs.Answers.{told_of}
use Rattle.redaction.specs.Described.{open_case, cleared_reader}
use Rattle.redaction.specs.Readable.{incident_count, is_readable, outline_text}

-- The reader of the short form is cleared for the handling that is named, and for nothing stricter.
abbrev pub ShortFormClears : Type 0
ShortFormClears = (h : Handling) → (clearance_of (cleared_reader h)).0 ≡ h

-- No gate of the short form's case refuses anybody, at any path.
abbrev pub OpenCaseRefusesNobody : Type 0
OpenCaseRefusesNobody = (s : Standing) (p : Tokens) → refusal_at open_case s p ≡ None

-- By the short form a class is visible exactly if its handling is at most the clearance. The handling is that of the
-- label in force, and RED if the label is `default`, as nothing is arranged.
abbrev pub ShortFormShowsUpToClearance : Type 0
ShortFormShowsUpToClearance =
    (h : Handling) (es : List LocatedLine) (p : Tokens) →
    is_visible es open_case (cleared_reader h) p ≡ is_at_most (handling_of (label_at es p) None) h

-- Reading the text of an outline's document gives that one document if the outline is readable, and else fails.
pub record IsReadExactly (ls : List Line) : Type 0 where
  pub back : is_readable ls ≡ true → reading (outline_text ls) ≡ Ok (ls ∷ [])
  pub refused : is_readable ls ≡ false → is_ok (reading (outline_text ls)) ≡ false

-- The law that the text of a document with at most one Incident can be read exactly if its outline is readable, if the
-- text is UTF-8.
abbrev pub ReadableExactly : Type 0
ReadableExactly =
    (f : Forest) → IsSound f → incident_count (lines 1 f) ≤ 1 → is_utf8 (outline_text (lines 1 f)) ≡ true →
    IsReadExactly (lines 1 f)

-- The law that the document of an excerpt can be read exactly if its outline is readable, if its text is UTF-8.
abbrev pub ExcerptsReadExactly : Type 0
ExcerptsReadExactly =
    (report description : Bytes) (told : Told) → told_of report description ≡ Ok told →
    is_utf8 (outline_text told.outline) ≡ true → IsReadExactly told.outline
