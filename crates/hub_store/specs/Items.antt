-- The lines of documents as rows of one table. Each has the number of its incident and its place, which is 1 for the
-- first line.
use Rattle.std.specs.Prelude.{ℕ, pos, suc, List, [], ◌∷◌, flat_map}
use Rattle.sqlite_value.specs.declared.value.Value.TheVariants.{Int, Text}
use Rattle.sqlite_value.specs.Order.{Row}
use Rattle.iodef_tree.specs.declared.line.Line.{Line}
use Rattle.iodef_tree.specs.declared.line.Kind.{Kind}
use Rattle.hub_state.specs.Documents.{Lines}
use Rattle.hub_state.specs.State.{State}
use Rattle.hub_state.specs.declared.state.Incident.{Incident}
use Rattle.hub_store.specs.Values.{flag}
use Rattle.hub_store.specs.declared.item_rows.PlacedLine.{PlacedLine}
use Rattle.iodef_tree.specs.declared.line.Kind.TheVariants as kind

-- a line with its incident and its place
pub record Item : Type 0 where
  pub incident : ℕ
  pub place : ℕ
  pub line : Line

-- the lines of one document, the first at this place
abbrev pub items_from : ℕ → ℕ → Lines → List Item
items_from n place [] = []
items_from n place (l ∷ ls) = record { incident = n; place = place; line = l } ∷ items_from n (suc place) ls

-- the lines of the documents of these incidents
abbrev pub items_in : List Incident → List Item
items_in = flat_map (λ (i : Incident). items_from i.naming.number 1 i.document)

-- the lines of all documents of a state
abbrev pub items_of : State → List Item
items_of s = items_in s.incidents

-- ---- rows

-- the number of a line's kind in the tables
abbrev pub kind_number : Kind → ℕ
kind_number kind.Class = 0
kind_number kind.Text = 1
kind_number kind.Value = 2

-- the columns of a line, and then others
abbrev pub line_columns : Line → Row → Row
line_columns l rest =
    Int (pos l.depth) ∷ Text l.name ∷ flag l.in_array ∷ Int (pos (kind_number l.kind)) ∷ Text l.text ∷ rest

-- the columns of a line
abbrev pub line_shown : Line → Row
line_shown l = line_columns l []

-- the row of a line, without its rowid
abbrev pub item_row : Item → Row
item_row x = Int (pos x.incident) ∷ Int (pos x.place) ∷ line_shown x.line

-- the parameters of a statement that puts lines, after the incident: each line with its place
abbrev pub placed_lines : ℕ → Lines → Row
placed_lines place [] = []
placed_lines place (l ∷ ls) = Int (pos place) ∷ line_columns l (placed_lines (suc place) ls)

-- ---- the lines of an incident, in the columns that their query names

-- the columns of a line with its place
abbrev pub placed_shown : PlacedLine → Row
placed_shown p = Int (pos p.place) ∷ line_shown p.line

-- each line with its place, the first at this one
abbrev pub placed_from : ℕ → Lines → List PlacedLine
placed_from place [] = []
placed_from place (l ∷ ls) = record { place = place; line = l } ∷ placed_from (suc place) ls
