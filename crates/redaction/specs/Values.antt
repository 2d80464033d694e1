-- What the JSON values of a view description say (RFC 8259): each by its kind, and an object by its members.
use Rattle.std.specs.Prelude.{ℕ, ◌+◌, ◌^◌, List, [], ◌∷◌, length, Bool, false, ◌&&◌, ◌||◌, nat_lt, nat_le, if◌then◌else◌, Option, Some, None, is_some, ℤ}
use Rattle.std.specs.Prelude.{Result, Ok, Err}
use Rattle.std.specs.Option.{option_map_or}
use Rattle.std.specs.List.{list_all, list_any}
use Rattle.std.specs.Str.{bytes_eq, is_utf8}
use Rattle.std.specs.Char.{is_ascii_digit}
use Rattle.std.specs.Str.Parse.{digits_value}
use Rattle.json.specs.Json.{Json, Items, Members, document}
use Rattle.json.specs.Find.{get, as_bool, as_number, as_str, as_array, as_object}
use Rattle.json.specs.Strict.{keys}
use Rattle.iodef_tree.specs.Text.{Bytes, Tokens}
use Rattle.iodef_tree.specs.Pointer.{pointer_tokens}
use Rattle.policy.specs.Moment.{moment_in}
use Rattle.policy.specs.declared.fault.MomentFault.{MomentFault}
use Rattle.redaction.specs.Moments.{is_written}
use Rattle.redaction.specs.Places.{part_name}
use Rattle.redaction.specs.Readings.{Reading, ◌>>=◌, ◌&◌, or_fault, require, at, refused, refused_inside}
use Rattle.redaction.specs.declared.TheConstants.{NUMBER_LIMIT}
use Rattle.redaction.specs.declared.place.Part.{Part}
use Rattle.redaction.specs.declared.place.Step.TheVariants.{Member, Item, Nth}
use Rattle.redaction.specs.declared.fault.Fault.TheVariants.{ViewNotJson, UnknownMember, MissingMember, WrongKind, OutOfRange, BadPointer, BadMoment}
use Rattle.json.specs.Json as json

-- ---- a text

-- the JSON value of a text in UTF-8 (RFC 8259 section 8.1), else ViewNotJson
abbrev pub parsed : Bytes → Reading Json
parsed bytes = or_fault ViewNotJson (if is_utf8 bytes then document bytes else None)

-- whether one of these names comes twice
abbrev pub stands_twice : List Bytes → Bool
stands_twice [] = false
stands_twice (k ∷ ks) = list_any (bytes_eq k) ks || stands_twice ks

-- whether some object, at any depth, has a member twice (RFC 8259 section 4)
abbrev mutual
  pub has_doubled : Json → Bool
  has_doubled json.null = false
  has_doubled (json.boolean b) = false
  has_doubled (json.number s) = false
  has_doubled (json.string s) = false
  has_doubled (json.array js) = items_have_doubled js
  has_doubled (json.object ms) = stands_twice (keys ms) || members_have_doubled ms

  pub items_have_doubled : Items → Bool
  items_have_doubled json.no_items = false
  items_have_doubled (json.item j js) = has_doubled j || items_have_doubled js

  pub members_have_doubled : Members → Bool
  members_have_doubled json.no_members = false
  members_have_doubled (json.member k j ms) = has_doubled j || members_have_doubled ms

-- ---- a value by its kind

-- whether a value is an object
abbrev pub is_object : Json → Bool
is_object j = is_some (as_object j)

-- WrongKind unless the value is an object
abbrev pub object_in : Json → Reading (Unit {0})
object_in j = require (is_object j) WrongKind

-- the truth value that a value is, else WrongKind
abbrev pub truth_in : Json → Reading Bool
truth_in j = or_fault WrongKind (as_bool j)

-- the text that a value is, else WrongKind
abbrev pub text_in : Json → Reading Bytes
text_in j = or_fault WrongKind (as_str j)

-- the elements of the array that a value is, else WrongKind
abbrev pub items_in : Json → Reading Items
items_in j = or_fault WrongKind (as_array j)

-- whether a text has decimal digits only, and at least one
abbrev pub is_whole : Bytes → Bool
is_whole text = nat_lt 0 (length text) && list_all is_ascii_digit text

-- a whole number below 2^32, written without a sign, a fraction or an exponent, else OutOfRange
abbrev pub whole : Bytes → Reading ℕ
whole text =
    if is_whole text && nat_lt (digits_value 10 text) (2 ^ 32) then Ok (digits_value 10 text) else Err (refused OutOfRange)

-- the whole number that a value is
unfoldable pub number_in : Json → Reading ℕ
number_in j = or_fault WrongKind (as_number j) >>= whole

-- the path of which a text is the JSON pointer (RFC 6901 section 3), else BadPointer
abbrev pub path_of : Bytes → Reading Tokens
path_of text = or_fault BadPointer (pointer_tokens text)

-- the path that a value says
unfoldable pub path_in : Json → Reading Tokens
path_in j = text_in j >>= path_of

-- the moment that was read, else BadMoment
abbrev pub moment_or_fault : Result ℤ MomentFault → Reading ℤ
moment_or_fault (Ok moment) = Ok moment
moment_or_fault (Err e) = Err (refused BadMoment)

-- the moment that a text gives, in seconds since the beginning of 1970, if it is written by RFC 3339 section 5.6
abbrev pub moment_of : Bytes → Reading ℤ
moment_of text = if is_written text then moment_or_fault (moment_in text) else Err (refused BadMoment)

-- the moment that a value says
unfoldable pub moment_from : Json → Reading ℤ
moment_from j = text_in j >>= moment_of

-- ---- the members of an object

-- whether a name is that of one of these members
abbrev pub is_one_of : List Part → Bytes → Bool
is_one_of known name = list_any (λ p. bytes_eq (part_name p) name) known

-- UnknownMember at the first member that is none of these; the first one counts from k
abbrev pub only_from : List Part → ℕ → Members → Reading (Unit {0})
only_from known k json.no_members = Ok tt
only_from known k (json.member name j ms) =
    if is_one_of known name then only_from known (k + 1) ms else Err (refused_inside (Nth k) (refused UnknownMember))

-- UnknownMember at the first member of an object that is none of these
abbrev pub only : List Part → Json → Reading (Unit {0})
only known j = option_map_or (only_from known 0) (as_object j) (Ok tt)

-- what a member says that has to be there, else MissingMember
abbrev pub wanted : {A : Type 0} → (Json → Reading A) → Part → Json → Reading A
wanted read p j = at (Member p) (or_fault MissingMember (get (part_name p) j) >>= read)

-- what a value says, or this if there is none
abbrev pub read_or : {A : Type 0} → A → (Json → Reading A) → Option Json → Reading A
read_or otherwise read None = Ok otherwise
read_or otherwise read (Some j) = read j

-- what a member says that may be missing, or this if it is
abbrev pub given_or : {A : Type 0} → A → (Json → Reading A) → Part → Json → Reading A
given_or otherwise read p j = at (Member p) (read_or otherwise read (get (part_name p) j))

-- what a value says, as one that is there
abbrev pub some_in : {A : Type 0} → (Json → Reading A) → Json → Reading (Option A)
some_in read j = read j >>= λ x. Ok (Some x)

-- what a member says, if it is there
abbrev pub given : {A : Type 0} → (Json → Reading A) → Part → Json → Reading (Option A)
given read = given_or None (some_in read)

-- ---- the items of an array

-- what each element says; the elements are read side by side, and the first one counts from k
abbrev pub each_from : {A : Type 0} → ℕ → (Json → Reading A) → Items → Reading (List A)
each_from k read json.no_items = Ok []
each_from k read (json.item j js) = at (Item k) (read j) & each_from (k + 1) read js >>= λ p. Ok (p.0 ∷ p.1)

-- what each element says
abbrev pub each : {A : Type 0} → (Json → Reading A) → Items → Reading (List A)
each read js = each_from 0 read js

-- how many elements an array has
abbrev pub count_of : Items → ℕ
count_of json.no_items = 0
count_of (json.item j js) = 1 + count_of js

-- ---- members of several objects

-- the truth of a member; false if it is missing
abbrev pub flag : Part → Json → Reading Bool
flag = given_or false truth_in

-- the whole numbers of an array, of which there are at most so many
unfoldable pub numbers_in : Json → Reading (List ℕ)
numbers_in j = do
  js ← items_in j
  numbers ← require (nat_le (count_of js) NUMBER_LIMIT) OutOfRange & each number_in js
  Ok numbers.1

-- the whole numbers of a member; none if it is missing
abbrev pub numbers_under : Part → Json → Reading (List ℕ)
numbers_under = given_or [] numbers_in
