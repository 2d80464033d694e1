-- The fields of a head: the length of the body, and the caller's key.
use Rattle.std.specs.Prelude.{ℕ, ◌+◌, List, [], ◌∷◌, length, map, take, drop, Bool, ◌&&◌, ◌==◌, nat_lt, nat_le, if◌then◌else◌, Option, Some, None, Result, Ok}
use Rattle.std.specs.Prelude.{Err, codes}
use Rattle.std.specs.List.{list_all}
use Rattle.std.specs.Char.{is_ascii_digit, to_ascii_lowercase}
use Rattle.std.specs.Str.{bytes_eq}
use Rattle.std.specs.Str.Parse.{digits_value}
use Rattle.sha2.specs.Sha256.{sha256}
use Rattle.hub.specs.declared.key.Key.{Key}
use Rattle.hub.specs.declared.key.Key.TheVariants.{Absent, Digest}
use Rattle.hub_http.specs.declared.TheConstants.{BODY_LIMIT, KEY_LIMIT}
use Rattle.hub_http.specs.declared.wire_fault.WireFault.{WireFault}
use Rattle.hub_http.specs.declared.wire_fault.WireFault.TheVariants.{BadHead, Chunked, NoLength, TooLarge}
use Rattle.hub_http.specs.Outcome.{◌>>=◌, require}
use Rattle.hub_http.specs.Parameters.{Pair}

-- two names are the same without ASCII case (RFC 9110 section 5.1)
abbrev pub same_name : List ℕ → List ℕ → Bool
same_name a b = bytes_eq (map to_ascii_lowercase a) (map to_ascii_lowercase b)

-- the values of the fields of a name, in order
abbrev pub field_values : List ℕ → List Pair → List (List ℕ)
field_values name [] = []
field_values name (field ∷ fields) =
    if same_name field.0 name then field.1 ∷ field_values name fields else field_values name fields

-- one digit or more, and nothing else
abbrev pub is_digits : List ℕ → Bool
is_digits text = nat_lt 0 (length text) && list_all is_ascii_digit text

-- the text of the Content-Length field, if there is one; BadHead if there are several or it isn't digits (RFC 9112
-- section 6)
unfoldable pub length_text : List (List ℕ) → Result (Option (List ℕ)) WireFault
length_text [] = Ok None
length_text (text ∷ []) = if is_digits text then Ok (Some text) else Err BadHead
length_text (text ∷ other ∷ rest) = Err BadHead

-- the length of the body: the number up to BODY_LIMIT, and 0 for a GET without a Content-Length (RFC 9112 section 6)
unfoldable pub declared_length : Bool → Option (List ℕ) → Result ℕ WireFault
declared_length is_get None = if is_get then Ok 0 else Err NoLength
declared_length is_get (Some text) =
    if nat_lt BODY_LIMIT (digits_value 10 text) then Err TooLarge else Ok (digits_value 10 text)

-- there is no field of this name
abbrev pub lacks : List ℕ → List Pair → Bool
lacks name fields = length (field_values name fields) == 0

-- the length of the body by the fields: a Content-Length, and no Transfer-Encoding (RFC 9112 section 6)
unfoldable pub body_length : Bool → List Pair → Result ℕ WireFault
body_length is_get fields = do
  text ← length_text (field_values (codes "content-length") fields)
  _ ← require (lacks (codes "transfer-encoding") fields) Chunked
  declared_length is_get text

-- a visible ASCII character, as a key may have
abbrev pub is_visible : ℕ → Bool
is_visible b = nat_le 33 b && nat_le b 126

-- `Bearer` in any ASCII case, a space and 1 to KEY_LIMIT visible characters (RFC 6750 section 2.1)
abbrev pub is_bearer : List ℕ → Bool
is_bearer value =
    nat_le 8 (length value) && nat_le (length value) (7 + KEY_LIMIT)
    && same_name (take 7 value) (codes "Bearer ") && list_all is_visible (drop 7 value)

-- the key with this text: its SHA-256 (FIPS 180-4)
abbrev pub key_shown : List ℕ → Key
key_shown text = Digest (sha256 text)

-- the key in the values of the Authorization fields: that of the one value if it is a bearer token, and otherwise
-- `Absent`
unfoldable pub key_in : List (List ℕ) → Key
key_in [] = Absent
key_in (value ∷ []) = if is_bearer value then key_shown (drop 7 value) else Absent
key_in (value ∷ other ∷ rest) = Absent

-- the key of the caller, by the fields of the head (RFC 9110 section 11.6.2)
abbrev pub key_of : List Pair → Key
key_of fields = key_in (field_values (codes "authorization") fields)
