-- The line that `mark` prints for a class.
use Rattle.std.specs.Prelude.{[], ◌∷◌, ◌++◌, None}
use Rattle.serde_json.specs.Data.{Data, string, array, item, no_items}
use Rattle.serde_json.specs.Written.{compact_text}
use Rattle.iodef_tree.specs.Text.{Bytes}
use Rattle.marking.specs.Label.{handling_of, name_of, text_of}
use Rattle.marking.specs.Marks.{Marked}

-- the compact JSON array of a class's path, its label, the label's handling if nothing is arranged, and its site
abbrev pub row_of : Marked → Data
row_of t =
    array (item (string t.path) (item (string (text_of t.label)) (item (string (name_of (handling_of t.label None))) (item (string t.site) no_items))))

-- the line of a class: its row as compact JSON, and a newline
abbrev pub line_of : Marked → Bytes
line_of t = compact_text (row_of t) ++ 10 ∷ []
