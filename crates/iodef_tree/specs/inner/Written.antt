-- A tree as JSON text, as the program writes it down the tree.
use Rattle.std.specs.Prelude.{ℕ, zero, suc, List, [], ◌∷◌, ◌++◌, map, Bool, true, false, if◌then◌else◌, ◌||◌, ◌==◌, nat_lt, Option, Some, None}
use Rattle.json.specs.Print.{quoted}
use Rattle.serde_json.specs.Data.{Data}
use Rattle.serde_json.specs.View.{items_of as listed}
use Rattle.serde_json.specs.Written.{comma_if}
use Rattle.json_pointer.specs.Text.{Bytes}
use Rattle.iodef_tree.specs.Json.{content_data}
use Rattle.iodef_tree.specs.Tree.{Content, text, value, Forest, end, leaf, branch, Body, holds, says, Bodies, one, many}
use Rattle.serde_json.specs.Data as json

-- ---- as text

-- whether a JSON string escapes the byte: the quotation mark, the backslash and the control characters (RFC 8259
-- section 7)
abbrev pub needs_escape : ℕ → Bool
needs_escape x = (x == 34) || ((x == 92) || nat_lt x 32)

-- a plain content as JSON: a text in quotes, a value as its text
abbrev pub content_text : Content → Bytes
content_text (text s) = quoted s
content_text (value s) = s

-- what is written before a value: a comma if there is a member before, the name, and the bracket of an array; before a
-- later element a comma
abbrev pub front_text : Bool → Bytes → Option ℕ → Bytes
front_text later name None = comma_if later ++ (quoted name ++ 58 ∷ [])
front_text later name (Some zero) = comma_if later ++ (quoted name ++ 58 ∷ 91 ∷ [])
front_text later name (Some (suc k)) = 44 ∷ []

-- whether a line is an element behind the first of its array
abbrev pub is_later_place : Option ℕ → Bool
is_later_place None = false
is_later_place (Some zero) = false
is_later_place (Some (suc k)) = true

-- whether the array of the line before goes on at the beginning of this tree
abbrev pub goes_on : Forest → Bool
goes_on end = false
goes_on (leaf i rest) = is_later_place i.place
goes_on (branch name place kids rest) = is_later_place place

-- what is written behind an element: the closing bracket if it is the last
abbrev pub close_text : Option ℕ → Forest → Bytes
close_text None rest = []
close_text (Some k) rest = if goes_on rest then [] else 93 ∷ []

-- the members of a tree as JSON, without the braces
abbrev pub written : Bool → Forest → Bytes
written later end = []
written later (leaf i rest) = front_text later i.name i.place ++ (content_text i.content ++ (close_text i.place rest ++ written true rest))
written later (branch name place kids rest) =
    front_text later name place ++ ((123 ∷ (written false kids ++ 125 ∷ [])) ++ (close_text place rest ++ written true rest))

-- ---- the same, member by member

-- one thing as JSON
abbrev pub body_text : Body → Bytes
body_text (holds f) = 123 ∷ (written false f ++ 125 ∷ [])
body_text (says c) = content_text c

-- the elements of an array as JSON, with the closing bracket
abbrev pub array_text : Bool → List Body → Bytes
array_text later [] = 93 ∷ []
array_text later (b ∷ bs) = comma_if later ++ (body_text b ++ array_text true bs)

-- the value of a member as JSON
abbrev pub bodies_text : Bodies → Bytes
bodies_text (one b) = body_text b
bodies_text (many bs) = 91 ∷ array_text false bs

-- a member as JSON, after a comma if there is a member before
abbrev pub member_text : Bool → Bytes → Bodies → Bytes
member_text later name m = comma_if later ++ (quoted name ++ 58 ∷ bodies_text m)

-- ---- as data

-- a member in front of others: the first element of an array begins the member, and the later ones belong to it
abbrev pub placed_member : Bytes → Option ℕ → Data → json.Items → json.Members → json.Members
placed_member name None d ds ms = json.member name d ms
placed_member name (Some zero) d ds ms = json.member name (json.array (json.item d ds)) ms
placed_member name (Some (suc k)) d ds ms = ms

-- an element in front of others: only later elements continue an array
abbrev pub placed_item : Option ℕ → Data → json.Items → json.Items
placed_item None d ds = json.no_items
placed_item (Some zero) d ds = json.no_items
placed_item (Some (suc k)) d ds = json.item d ds

-- the members of a tree, and the elements with which an array goes on
abbrev mutual
  pub members_of : Forest → json.Members
  members_of end = json.no_members
  members_of (leaf i rest) = placed_member i.name i.place (content_data i.content) (items_of rest) (members_of rest)
  members_of (branch name place kids rest) = placed_member name place (json.object (members_of kids)) (items_of rest) (members_of rest)

  pub items_of : Forest → json.Items
  items_of end = json.no_items
  items_of (leaf i rest) = placed_item i.place (content_data i.content) (items_of rest)
  items_of (branch name place kids rest) = placed_item place (json.object (members_of kids)) (items_of rest)

-- ---- the same, member by member

-- the JSON value of one thing
abbrev pub body_data : Body → Data
body_data (holds f) = json.object (members_of f)
body_data (says c) = content_data c

-- the JSON value of a member
abbrev pub bodies_data : Bodies → Data
bodies_data (one b) = body_data b
bodies_data (many bs) = json.array (listed (map body_data bs))

-- the members with others put in, one after another
abbrev pub put_all : json.Members → json.Members → json.Members
put_all json.no_members found = found
put_all (json.member name d ms) found = put_all ms (json.put name d found)
