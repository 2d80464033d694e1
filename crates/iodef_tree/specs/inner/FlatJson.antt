-- The JSON object that a document is, read off the flat list of its lines.
use Rattle.std.specs.Prelude.{◌≡◌, ℕ, suc, List, [], ◌∷◌, Bool, false, ◌&&◌, if◌then◌else◌, Option, Some, None, unwrap_or}
use Rattle.std.specs.Str.{bytes_eq}
use Rattle.serde_json.specs.Data.{Data}
use Rattle.serde_json.specs.Read.{read}
use Rattle.json_pointer.specs.Text.{Bytes}
use Rattle.iodef_tree.specs.Json.{data_of}
use Rattle.iodef_tree.specs.Outline.{sibling}
use Rattle.iodef_tree.specs.Sound.{IsSound}
use Rattle.iodef_tree.specs.Tree.{Forest, lines}
use Rattle.iodef_tree.specs.TreeOf.{by_depth}
use Rattle.iodef_tree.specs.declared.line.Line.{Line}
use Rattle.iodef_tree.specs.declared.line.Kind.{Kind}
use Rattle.iodef_tree.specs.declared.shape.Sibling.{Sibling}
use Rattle.serde_json.specs.Data as json
use Rattle.iodef_tree.specs.declared.line.Kind.TheVariants as kind

-- whether a line is one more element of the array in which the newest sibling is
abbrev pub continues : Option Sibling → Line → Bool
continues None l = false
continues (Some x) l = bytes_eq x.name l.name && (x.in_array && l.in_array)

-- the JSON value that a line means, given the members of the class if it is one; a value's text that can't be read
-- counts as null
abbrev pub datum : Kind → Bytes → json.Members → Data
datum kind.Class s ms = json.object ms
datum kind.Text s ms = json.string s
datum kind.Value s ms = unwrap_or (read s) json.null

-- the member that a line begins: if the line is in an array, all its elements, of which the line is the first
abbrev pub member_begun : Line → Data → json.Items → json.Members → json.Members
member_begun l d others rest = if l.in_array then json.member l.name (json.array (json.item d others)) rest else json.member l.name d rest

-- Both read the lines before the first that is less deep: `members_from` returns the members at this depth that follow
-- a sibling, and `items_from` the elements with which the array of the sibling goes on.
abbrev mutual
  pub members_from : ℕ → Option Sibling → List Line → json.Members
  members_from depth before [] = json.no_members
  members_from depth before (l ∷ ls) = by_depth l depth
      json.no_members
      (if continues before l then members_from depth (Some (sibling l)) ls
      else member_begun l (datum l.kind l.text (members_from (suc depth) None ls)) (items_from depth (Some (sibling l)) ls) (members_from depth (Some (sibling l)) ls))
      (members_from depth before ls)

  pub items_from : ℕ → Option Sibling → List Line → json.Items
  items_from depth before [] = json.no_items
  items_from depth before (l ∷ ls) = by_depth l depth
      json.no_items
      (if continues before l then json.item (datum l.kind l.text (members_from (suc depth) None ls)) (items_from depth (Some (sibling l)) ls) else json.no_items)
      (items_from depth before ls)

-- the members of the JSON object that the lines mean
abbrev pub flat_data : List Line → json.Members
flat_data ls = members_from 1 None ls

-- The law that the JSON object of a sound tree is the one that its lines mean.
abbrev pub JsonIsFlat : Type 0
JsonIsFlat = (f : Forest) → IsSound f → data_of (lines 1 f) ≡ flat_data (lines 1 f)
