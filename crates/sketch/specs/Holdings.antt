-- The texts that the classes of a document directly hold. A search reads these and no others.
use Rattle.std.specs.Prelude.{List, [], map, filter, Bool, ◌&&◌, if◌then◌else◌, Option}
use Rattle.std.specs.List.{flat_map}
use Rattle.iodef_tree.specs.Text.{Bytes, Tokens, same_path}
use Rattle.iodef_tree.specs.Paths.{LocatedLine, is_class, located}
use Rattle.iodef_tree.specs.declared.line.Line.{Line}
use Rattle.marking.specs.declared.label.Handling.{Handling}
use Rattle.redact.specs.Told.{is_text_kind}
use Rattle.sketch.specs.Labels.{handling_at}

-- a text, with the name of the class that directly holds it, and how the label in force there is handled
pub record HeldText : Type 0 where
  pub class : Bytes
  pub handling : Option Handling
  pub text : Bytes

-- a text held by a class of this name that is handled so
abbrev pub held_in : Bytes → Option Handling → Bytes → HeldText
held_in name h t = record { class = name; handling = h; text = t }

-- whether a line is a text, directly in the class at a path
abbrev pub is_text_in : Tokens → LocatedLine → Bool
is_text_in p e = same_path e.parent p && is_text_kind e.line.kind

-- the texts that the class at a path directly holds, in stored order
abbrev pub texts_at : List LocatedLine → Tokens → List Bytes
texts_at es p = map (λ e. e.line.text) (filter (is_text_in p) es)

-- the texts that a line holds directly, if it is a class
abbrev pub held_by : List LocatedLine → LocatedLine → List HeldText
held_by es e = if is_class e then map (held_in e.line.name (handling_at es e.path)) (texts_at es e.path) else []

-- the texts that the classes of an outline directly hold, class by class in stored order
abbrev pub holdings : List Line → List HeldText
holdings ls = let es = located ls in flat_map (held_by es) es
