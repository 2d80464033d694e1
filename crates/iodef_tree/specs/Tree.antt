-- A document as a tree (RFC 8727 section 2): the members of a JSON object in stored order, and its lines.
use Rattle.std.specs.Prelude.{ℕ, suc, max, List, [], ◌∷◌, ◌++◌, Bool, if◌then◌else◌, Option, Some, None, is_some, decimal}
use Rattle.json_pointer.specs.Text.{Bytes, Tokens}
use Rattle.iodef_tree.specs.declared.line.Line.{Line}
use Rattle.iodef_tree.specs.declared.line.Kind.{Kind}
use Rattle.iodef_tree.specs.declared.line.Kind.TheVariants as kind

-- what a plain line holds: a text, or the compact JSON of any other value that is no object
pub data Content : Type 0 where
  text : Bytes → Content
  value : Bytes → Content

-- a plain line, with its place if it is an element of an array
pub record Leaf : Type 0 where
  pub name : Bytes
  pub place : Option ℕ
  pub content : Content

-- The members of an object, one after another, each array as its elements: a plain line, or a class with its own
-- members, and then the members behind it (RFC 8727 section 2).
pub data Forest : Type 0 where
  end : Forest
  leaf : Leaf → Forest → Forest
  branch : Bytes → Option ℕ → Forest → Forest → Forest

-- what one member or one element is: a class with its members, or a plain content
pub data Body : Type 0 where
  holds : Forest → Body
  says : Content → Body

-- what a member holds: one thing, or the elements of an array
pub data Bodies : Type 0 where
  one : Body → Bodies
  many : List Body → Bodies

-- a class or a plain line in front of a tree
abbrev pub in_front : Bytes → Option ℕ → Body → Forest → Forest
in_front name place (holds kids) rest = branch name place kids rest
in_front name place (says content) rest = leaf (record { name = name; place = place; content = content }) rest

-- the elements of an array from a place on
abbrev pub elements : Bytes → ℕ → List Body → Forest → Forest
elements name k [] rest = rest
elements name k (b ∷ bs) rest = in_front name (Some k) b (elements name (suc k) bs rest)

-- a member in front of a tree, an array as its elements from place 0 on
abbrev pub member_front : Bytes → Bodies → Forest → Forest
member_front name (one b) rest = in_front name None b rest
member_front name (many bs) rest = elements name 0 bs rest

-- what a line adds to the path of its parent: its name and, in an array, its place (RFC 6901 section 4)
abbrev pub steps : Bytes → Option ℕ → Tokens
steps name None = name ∷ []
steps name (Some k) = name ∷ decimal k ∷ []

-- this place if the line is in an array, else none
abbrev pub place_of : Bool → ℕ → Option ℕ
place_of in_array k = if in_array then Some k else None

-- the kind of the line of a plain content
abbrev pub kind_of : Content → Kind
kind_of (text s) = kind.Text
kind_of (value s) = kind.Value

-- the text of the line of a plain content
abbrev pub text_of : Content → Bytes
text_of (text s) = s
text_of (value s) = s

-- the line of a plain member at a depth
abbrev pub leaf_line : ℕ → Leaf → Line
leaf_line d i = record { depth = d; name = i.name; in_array = is_some i.place; kind = kind_of i.content; text = text_of i.content }

-- the line of a class at a depth; its text is empty
abbrev pub class_line : ℕ → Bytes → Option ℕ → Line
class_line d name place = record { depth = d; name = name; in_array = is_some place; kind = kind.Class; text = [] }

-- The outline of a tree: a line for each member that is no array and for each element of one that is. The lines of a
-- class follow its own line and are one deeper (RFC 8727 section 2).
abbrev pub lines : ℕ → Forest → List Line
lines d end = []
lines d (leaf i rest) = leaf_line d i ∷ lines d rest
lines d (branch name place kids rest) = class_line d name place ∷ (lines (suc d) kids ++ lines d rest)

-- how many lines are one below the other
abbrev pub height : Forest → ℕ
height end = 0
height (leaf i rest) = max 1 (height rest)
height (branch name place kids rest) = max (suc (height kids)) (height rest)
