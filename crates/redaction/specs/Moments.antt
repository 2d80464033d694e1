-- How a moment is written (RFC 3339 section 5.6).
use Rattle.std.specs.Prelude.{ℕ, [], ◌∷◌, ◌==◌, nat_lt, length, drop, Bool, false, not, ◌&&◌, ◌||◌, if◌then◌else◌, Option, Some, None, unwrap_or}
use Rattle.std.specs.Prelude.{option_and_then, codes}
use Rattle.std.specs.List.{position_from}
use Rattle.std.specs.Option.{option_map_or}
use Rattle.std.specs.Char.{is_ascii_digit}
use Rattle.iodef_tree.specs.Text.{Bytes}

-- whether a byte may be where the pattern of a date and a time of day has another: a digit for `0`, either case of `T`,
-- and else the same byte
abbrev pub fits : ℕ → ℕ → Bool
fits pattern byte =
    if pattern == 48 then is_ascii_digit byte
    else if pattern == 84 then (byte == 84 || byte == 116)
    else byte == pattern

-- the pattern of a date and a time of day to the second
abbrev pub date_and_time : Bytes
date_and_time = codes "0000-00-00T00:00:00"

-- what is left of a text behind a byte, if it begins with one that fits the byte of a pattern
abbrev pub behind_byte : ℕ → Bytes → Option Bytes
behind_byte p [] = None
behind_byte p (c ∷ text) = if fits p c then Some text else None

-- what is left of a text behind a pattern, if it begins with what fits that
abbrev pub behind : Bytes → Bytes → Option Bytes
behind [] text = Some text
behind (p ∷ pattern) text = option_and_then (behind pattern) (behind_byte p text)

-- what is left of a text behind a date and a time of day, if it begins with these
abbrev pub behind_time : Bytes → Option Bytes
behind_time text = behind date_and_time text

-- how many digits a text begins with
abbrev pub digit_count : Bytes → ℕ
digit_count text = unwrap_or (position_from (λ c. not (is_ascii_digit c)) 0 text) (length text)

-- what is left of a text behind the digits that it begins with
abbrev pub behind_digits : Bytes → Bytes
behind_digits text = drop (digit_count text) text

-- what is left of a text behind a fraction of a second, a point and at least one digit, if it begins with one
abbrev pub behind_fraction : Bytes → Bytes
behind_fraction (p ∷ d ∷ rest) = if p == 46 && is_ascii_digit d then behind_digits rest else p ∷ d ∷ rest
behind_fraction text = text

-- whether two bytes are the digits of an hour, 00 to 23
abbrev pub is_hour : ℕ → ℕ → Bool
is_hour a b = is_ascii_digit a && is_ascii_digit b && (nat_lt a 50 || (a == 50 && nat_lt b 52))

-- whether two bytes are the digits of a minute, 00 to 59
abbrev pub is_minute : ℕ → ℕ → Bool
is_minute a b = is_ascii_digit a && is_ascii_digit b && nat_lt a 54

-- whether a text is an offset from UTC: `Z` in either case, or a sign with hours and minutes
abbrev pub is_offset : Bytes → Bool
is_offset (z ∷ []) = z == 90 || z == 122
is_offset (s ∷ a ∷ b ∷ c ∷ d ∷ e ∷ []) = (s == 43 || s == 45) && is_hour a b && c == 58 && is_minute d e
is_offset text = false

-- whether a text is written as a date, a time of day and an offset from UTC (RFC 3339 section 5.6)
unfoldable pub is_written : Bytes → Bool
is_written text = option_map_or (λ rest. is_offset (behind_fraction rest)) (behind_time text) false
