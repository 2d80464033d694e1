-- The texts that a line may have, by its kind.
use Rattle.std.specs.Prelude.{◌≡◌, ℕ, ◌-◌, [], ◌∷◌, Bool, true, false, not, ◌&&◌, ◌||◌, nat_lt, is_some}
use Rattle.std.specs.Option.{option_map_or}
use Rattle.std.specs.Str.{bytes_eq}
use Rattle.serde_json.specs.Data.{Data}
use Rattle.serde_json.specs.Find.{is_float}
use Rattle.serde_json.specs.Read.{read}
use Rattle.serde_json.specs.Written.{compact_text}
use Rattle.json_pointer.specs.Text.{Bytes}
use Rattle.iodef_tree.specs.Tree.{Forest, end, leaf, branch, kind_of, text_of}
use Rattle.iodef_tree.specs.declared.TheConstants.{DEPTH_LIMIT}
use Rattle.iodef_tree.specs.declared.line.Kind.{Kind}
use Rattle.serde_json.specs.Data as json
use Rattle.iodef_tree.specs.declared.line.Kind.TheVariants as kind

-- A value in which no object is, and no number that is neither an i64 nor a u64. At most so many arrays in it are one
-- inside the other (RFC 8259 sections 3 to 6).
abbrev mutual
  pub is_plain : ℕ → Data → Bool
  is_plain deep (json.number n) = not (is_float n)
  is_plain deep (json.array ds) = nat_lt 0 deep && are_plain (deep - 1) ds
  is_plain deep (json.object ms) = false
  is_plain deep _ = true

  pub are_plain : ℕ → json.Items → Bool
  are_plain deep json.no_items = true
  are_plain deep (json.item d ds) = is_plain deep d && are_plain deep ds

-- whether an array has no element
abbrev pub is_empty : json.Items → Bool
is_empty json.no_items = true
is_empty (json.item d ds) = false

-- What a line of kind Value may hold: null, a truth value, a whole number or an empty array; as an element of an
-- array, also any other array that is plain.
abbrev pub may_be_value : Bool → Data → Bool
may_be_value in_array json.null = true
may_be_value in_array (json.boolean b) = true
may_be_value in_array (json.number n) = not (is_float n)
may_be_value in_array (json.string s) = false
may_be_value in_array (json.array ds) = (is_empty ds || in_array) && is_plain DEPTH_LIMIT (json.array ds)
may_be_value in_array (json.object ms) = false

-- whether a text is the compact JSON of a value that a plain line may hold, in an array or not
abbrev pub is_value_text : Bool → Bytes → Bool
is_value_text in_array s = option_map_or (λ d. may_be_value in_array d && bytes_eq (compact_text d) s) (read s) false

-- whether a text has no byte
abbrev pub is_empty_text : Bytes → Bool
is_empty_text [] = true
is_empty_text (c ∷ cs) = false

-- whether a line of this kind may have this text: a class has none, a text has any, and a value has the compact JSON
-- of itself
abbrev pub may_be_text : Kind → Bool → Bytes → Bool
may_be_text kind.Class in_array s = is_empty_text s
may_be_text kind.Text in_array s = true
may_be_text kind.Value in_array s = is_value_text in_array s

-- the text of each plain line of a tree is one of its kind
abbrev pub HasTexts : Forest → Type 0
HasTexts end = Unit {0}
HasTexts (leaf i rest) = (may_be_text (kind_of i.content) (is_some i.place) (text_of i.content) ≡ true) × HasTexts rest
HasTexts (branch name place kids rest) = HasTexts kids × HasTexts rest
