-- Parameters of a request: names and values, and how many there are of each name.
use Rattle.std.specs.Prelude.{ℕ, ℤ, List, [], ◌∷◌, map, if◌then◌else◌, Bool, Option, Some, None, Ok, Err, codes}
use Rattle.std.specs.List.{list_all, list_any}
use Rattle.std.specs.Str.{bytes_eq}
use Rattle.std.specs.Str.Lossy.{utf8_lossy}
use Rattle.form_urlencoded.specs.Form.{raw_pairs, decode}
use Rattle.policy.specs.declared.permission.Grantee.{Grantee}
use Rattle.hub_state.specs.declared.request.Target.{Target}
use Rattle.hub_http.specs.declared.request_fault.RequestFault.TheVariants.{BadBody}
use Rattle.hub_http.specs.Outcome.{Read, ◌>>=◌, or_fault, require}
use Rattle.hub_http.specs.Spelling.{moment, number}
use Rattle.policy.specs.declared.permission.Grantee.TheVariants as grantee
use Rattle.hub_state.specs.declared.request.Target.TheVariants as target

-- a name and a value
abbrev pub Pair : Type 0
Pair = List ℕ × List ℕ

-- the text of percent-encoded bytes, with U+FFFD for bytes that aren't UTF-8 (WHATWG URL)
abbrev pub decoded : List ℕ → List ℕ
decoded bytes = utf8_lossy (decode bytes)

-- the decoded name and value
abbrev pub decoded_pair : Pair → Pair
decoded_pair pair = (decoded pair.0, decoded pair.1)

-- the parameters of a form (WHATWG URL, application/x-www-form-urlencoded)
abbrev pub pairs_of : List ℕ → List Pair
pairs_of form = map decoded_pair (raw_pairs form)

-- the values of a name, in order
abbrev pub values : List ℕ → List Pair → List (List ℕ)
values name [] = []
values name (pair ∷ pairs) = if bytes_eq pair.0 name then pair.1 ∷ values name pairs else values name pairs

-- a name is one of these
abbrev pub is_one_of : List (List ℕ) → List ℕ → Bool
is_one_of names name = list_any (λ known. bytes_eq known name) names

-- BadBody if there is another name than these
abbrev pub only : List (List ℕ) → List Pair → Read (Unit {0})
only names pairs = require (list_all (λ pair. is_one_of names pair.0) pairs) BadBody

-- the value if there is one; BadBody if there are several
abbrev pub sole : List (List ℕ) → Read (Option (List ℕ))
sole [] = Ok None
sole (value ∷ []) = Ok (Some value)
sole (value ∷ other ∷ rest) = Err BadBody

-- the one value of a name; BadBody if it is missing
unfoldable pub mandatory : List ℕ → List Pair → Read (List ℕ)
mandatory name pairs = sole (values name pairs) >>= or_fault BadBody

-- the one value of a name, if there is one
unfoldable pub optional : List ℕ → List Pair → Read (Option (List ℕ))
optional name pairs = sole (values name pairs)

-- the one number of a name; BadBody if it is missing
unfoldable pub mandatory_number : List ℕ → List Pair → Read ℕ
mandatory_number name pairs = mandatory name pairs >>= number

-- the number, or 0 if there is none
abbrev pub or_zero : Option (List ℕ) → Read ℕ
or_zero None = Ok 0
or_zero (Some text) = number text

-- the number of a name, or 0 if it is missing
unfoldable pub number_or_zero : List ℕ → List Pair → Read ℕ
number_or_zero name pairs = optional name pairs >>= or_zero

-- the reading of a text, if there is one
abbrev pub optional_read : {A : Type 0} → (List ℕ → Read A) → Option (List ℕ) → Read (Option A)
optional_read read None = Ok None
optional_read read (Some text) = read text >>= λ x. Ok (Some x)

-- the number of a name, if there is one
unfoldable pub optional_number : List ℕ → List Pair → Read (Option ℕ)
optional_number name pairs = optional name pairs >>= optional_read number

-- the moment of a name, if there is one
unfoldable pub optional_moment : List ℕ → List Pair → Read (Option ℤ)
optional_moment name pairs = optional name pairs >>= optional_read moment

-- the one number of a name, with no parameter beside it
unfoldable pub number_alone : List ℕ → List Pair → Read ℕ
number_alone name pairs = do
  _ ← only (name ∷ []) pairs
  mandatory_number name pairs

-- the grantee if there is exactly one of the four numbers, and otherwise BadBody
unfoldable pub one_grantee : Option ℕ → Option ℕ → Option ℕ → Option ℕ → Read Grantee
one_grantee (Some n) None None None = Ok (grantee.Person n)
one_grantee None (Some n) None None = Ok (grantee.Org n)
one_grantee None None (Some n) None = Ok (grantee.Community n)
one_grantee None None None (Some n) = Ok (grantee.Group n)
one_grantee _ _ _ _ = Err BadBody

-- the grantee of a request: exactly one of `person`, `org`, `community` and `group`
unfoldable pub grantee_in : List Pair → Read Grantee
grantee_in pairs = do
  person ← optional_number (codes "person") pairs
  org ← optional_number (codes "org") pairs
  community ← optional_number (codes "community") pairs
  group ← optional_number (codes "group") pairs
  one_grantee person org community group

-- the target if there is exactly one of the two numbers, and otherwise BadBody
unfoldable pub one_target : Option ℕ → Option ℕ → Read Target
one_target (Some n) None = Ok (target.Person n)
one_target None (Some n) = Ok (target.Org n)
one_target _ _ = Err BadBody

-- the target of a request: exactly one of `person` and `org`, with no parameter beside it
unfoldable pub target_alone : List Pair → Read Target
target_alone pairs = do
  _ ← only (codes "person" ∷ codes "org" ∷ []) pairs
  person ← optional_number (codes "person") pairs
  org ← optional_number (codes "org") pairs
  one_target person org
