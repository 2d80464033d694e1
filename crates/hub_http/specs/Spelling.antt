-- The values that the texts of parameters spell.
use Rattle.std.specs.Prelude.{ℕ, ℤ, ◌^◌, List, [], ◌∷◌, length, slice_index, Bool, true, false, ◌&&◌, ◌==◌, nat_lt, if◌then◌else◌, Option, Some, None, Result}
use Rattle.std.specs.Prelude.{Ok, Err, codes}
use Rattle.std.specs.List.{list_all, before_first, after_first, position_or_len}
use Rattle.std.specs.Str.{bytes_eq}
use Rattle.std.specs.Char.{is_ascii_digit}
use Rattle.std.specs.Str.Parse.{digits_value}
use Rattle.hex.specs.Hex.{decode_sized}
use Rattle.policy.specs.Moment.{moment_in}
use Rattle.policy.specs.declared.fault.MomentFault.{MomentFault}
use Rattle.circle.specs.declared.directory.Role.{Role}
use Rattle.circle.specs.declared.directory.Handling.{Handling}
use Rattle.hub_state.specs.declared.request.WantedGate.{WantedGate}
use Rattle.hub_http.specs.declared.request_fault.RequestFault.TheVariants.{BadBody}
use Rattle.hub_http.specs.Outcome.{Read, ◌>>=◌}
use Rattle.circle.specs.declared.directory.Role.TheVariants as role
use Rattle.circle.specs.declared.directory.Handling.TheVariants as handling

-- decimal digits without a leading zero
abbrev pub is_numeral : List ℕ → Bool
is_numeral text =
    nat_lt 0 (length text) && list_all is_ascii_digit text
    && (if slice_index text 0 == 48 then length text == 1 else true)

-- the number below 2^32 of a numeral, and otherwise BadBody
unfoldable pub number : List ℕ → Read ℕ
number text =
    if is_numeral text && nat_lt (digits_value 10 text) (2 ^ 32) then Ok (digits_value 10 text) else Err BadBody

-- the moment, or BadBody
abbrev pub moment_or_fault : Result ℤ MomentFault → Read ℤ
moment_or_fault (Ok moment) = Ok moment
moment_or_fault (Err e) = Err BadBody

-- the moment that a text says (`moment_in` of policy)
unfoldable pub moment : List ℕ → Read ℤ
moment text = moment_or_fault (moment_in text)

-- `0` or `1`
unfoldable pub flag : List ℕ → Read Bool
flag text =
    if bytes_eq text (codes "0") then Ok false
    else if bytes_eq text (codes "1") then Ok true
    else Err BadBody

-- the role of a name
unfoldable pub role_named : List ℕ → Read Role
role_named text =
    if bytes_eq text (codes "administrator") then Ok role.Administrator
    else if bytes_eq text (codes "coordinator") then Ok role.Coordinator
    else if bytes_eq text (codes "poster") then Ok role.Poster
    else if bytes_eq text (codes "reader") then Ok role.Reader
    else Err BadBody

-- the handling of a name
unfoldable pub handling_named : List ℕ → Read Handling
handling_named text =
    if bytes_eq text (codes "CLEAR") then Ok handling.Clear
    else if bytes_eq text (codes "GREEN") then Ok handling.Green
    else if bytes_eq text (codes "AMBER") then Ok handling.Amber
    else if bytes_eq text (codes "STRICT") then Ok handling.Strict
    else if bytes_eq text (codes "RED") then Ok handling.Red
    else Err BadBody

-- the bytes, or BadBody
abbrev pub digest_or_fault : {E : Type 0} → Result (List ℕ) E → Read (List ℕ)
digest_or_fault (Ok bytes) = Ok bytes
digest_or_fault (Err e) = Err BadBody

-- the 32 bytes that 64 hexadecimal digits of either case spell
unfoldable pub digest : List ℕ → Read (List ℕ)
digest text = digest_or_fault (decode_sized text 32)

-- the byte is a colon
abbrev pub is_colon : ℕ → Bool
is_colon b = b == 58

-- the text before its first colon and after it; BadBody if there is none
unfoldable pub parts : List ℕ → Read (List ℕ × List ℕ)
parts text =
    if nat_lt (position_or_len is_colon text) (length text) then Ok (before_first is_colon text, after_first is_colon text)
    else Err BadBody

-- group 0 stands for none inside a gate
abbrev pub group_of : ℕ → Option ℕ
group_of n = if n == 0 then None else Some n

-- a gate: `LEVEL:GROUP:POINTER`, with the pointer after the second colon
unfoldable pub gate : List ℕ → Read WantedGate
gate text = do
  first ← parts text
  level ← number first.0
  second ← parts first.1
  group ← number second.0
  Ok (record { level = level; group = group_of group; path = second.1 })

-- the gates that these texts spell
unfoldable pub gates : List (List ℕ) → Read (List WantedGate)
gates [] = Ok []
gates (text ∷ texts) = do
  head ← gate text
  rest ← gates texts
  Ok (head ∷ rest)
