-- The values that `serde_json` reads: as the tree of a document, and value by value.
use Rattle.std.specs.Prelude.{ℕ, suc, List, [], ◌∷◌, ◌++◌, Bool, false, ◌&&◌, ◌||◌, nat_lt, if◌then◌else◌, Option, Some, None, is_some, option_map, unwrap_or}
use Rattle.std.specs.Prelude.{decimal}
use Rattle.serde_json.specs.Data.{Data}
use Rattle.serde_json.specs.Find.{as_array, as_number, as_object, is_float}
use Rattle.serde_json.specs.Written.{compact_text}
use Rattle.json_pointer.specs.Text.{Bytes, Tokens}
use Rattle.iodef_tree.specs.Tree.{Forest, end, Body, holds, says, Bodies, one, many, text, value, member_front}
use Rattle.iodef_tree.specs.declared.TheConstants.{DEPTH_LIMIT}
use Rattle.serde_json.specs.Data as json

-- ---- the tree of a document

-- the elements of a member's array if it has some, else the one thing
abbrev pub one_or_many : Body → List Body → Bodies
one_or_many b [] = one b
one_or_many b (first ∷ others) = many (first ∷ others)

-- An object is a class, a string a text, and any other value the compact JSON of itself. A member that is an array
-- holds its elements, unless it is empty (RFC 8727 section 2.1, RFC 8259 sections 3 to 5).
abbrev mutual
  pub forest_of_data : json.Members → Forest
  forest_of_data json.no_members = end
  forest_of_data (json.member name d ms) = member_front name (one_or_many (body_of_data d) (elements_of_data d)) (forest_of_data ms)

  pub body_of_data : Data → Body
  body_of_data (json.object ms) = holds (forest_of_data ms)
  body_of_data (json.string s) = says (text s)
  body_of_data d = says (value (compact_text d))

  pub elements_of_data : Data → List Body
  elements_of_data (json.array ds) = items_of_data ds
  elements_of_data _ = []

  pub items_of_data : json.Items → List Body
  items_of_data json.no_items = []
  items_of_data (json.item d ds) = body_of_data d ∷ items_of_data ds

-- what a member with this value holds
abbrev pub bodies_of_data : Data → Bodies
bodies_of_data d = one_or_many (body_of_data d) (elements_of_data d)

-- ---- every value of a body

-- a value with how many objects are around it, and how many arrays are around it inside the nearest of these
pub record Surrounded : Type 0 where
  pub objects : ℕ
  pub arrays : ℕ
  pub value : Data

-- a value, with what is around it, and its pointer (RFC 6901)
pub record Node : Type 0 where
  pub pointer : Tokens
  pub seen : Surrounded

-- a value by itself, whose pointer is empty
abbrev pub node : ℕ → ℕ → Data → Node
node objects arrays d = record { pointer = []; seen = record { objects = objects; arrays = arrays; value = d } }

-- values with their pointers from one token above: the token comes first in each
abbrev pub beneath : Bytes → List Node → List Node
beneath token [] = []
beneath token (n ∷ ns) = record { pointer = token ∷ n.pointer; seen = n.seen } ∷ beneath token ns

-- the values in stored order, each before those inside it
abbrev mutual
  pub nodes : ℕ → ℕ → Data → List Node
  nodes o a json.null = node o a json.null ∷ []
  nodes o a (json.boolean b) = node o a (json.boolean b) ∷ []
  nodes o a (json.number n) = node o a (json.number n) ∷ []
  nodes o a (json.string s) = node o a (json.string s) ∷ []
  nodes o a (json.array ds) = node o a (json.array ds) ∷ item_nodes o (suc a) 0 ds
  nodes o a (json.object ms) = node o a (json.object ms) ∷ member_nodes (suc o) ms

  pub item_nodes : ℕ → ℕ → ℕ → json.Items → List Node
  item_nodes o a k json.no_items = []
  item_nodes o a k (json.item d ds) = beneath (decimal k) (nodes o a d) ++ item_nodes o a (suc k) ds

  pub member_nodes : ℕ → json.Members → List Node
  member_nodes o json.no_members = []
  member_nodes o (json.member name d ms) = beneath name (nodes o 0 d) ++ member_nodes o ms

-- the pointer of the first value that passes a test
abbrev pub first_at : (Surrounded → Bool) → List Node → Option Tokens
first_at test [] = None
first_at test (n ∷ ns) = if test n.seen then Some n.pointer else first_at test ns

-- a number that is neither an i64 nor a u64 (RFC 8259 section 6)
abbrev pub is_not_whole : Surrounded → Bool
is_not_whole s = unwrap_or (option_map is_float (as_number s.value)) false

-- an object inside an array inside an array
abbrev pub is_nested_class : Surrounded → Bool
is_nested_class s = nat_lt 1 s.arrays && is_some (as_object s.value)

-- Whether a line is deeper than the limit, or a value has too many arrays, one inside the other. The outermost array of
-- a member becomes its lines and is no part of a value.
abbrev pub is_too_deep : Surrounded → Bool
is_too_deep s = nat_lt DEPTH_LIMIT s.objects || (nat_lt DEPTH_LIMIT s.arrays && is_some (as_array s.value))
