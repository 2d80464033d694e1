-- The byte order mark that an input begins with (Unicode, chapter 23.8), and what helps.
use Rattle.std.specs.Prelude.{[], ◌∷◌, ◌==◌, Bool, true, Option, Some, None, codes, if◌then◌else◌}
use Rattle.std.specs.List.{starts_with}
use Rattle.iodef_tree.specs.Text.{Bytes}
use Rattle.input_hints.specs.declared.mark.ByteOrderMark.{ByteOrderMark}
use Rattle.input_hints.specs.declared.mark.ByteOrderMark.TheVariants.{Utf8, Utf16, Utf32}

-- the first bytes are these
abbrev pub begins_with : Bytes → Bytes → Bool
begins_with bytes these = starts_with (λ a b. a == b) bytes these

-- the mark of UTF-32 in little-endian order begins with that of UTF-16, and is tried first
abbrev pub is_utf32 : Bytes → Bool
is_utf32 bytes = if begins_with bytes (255 ∷ 254 ∷ 0 ∷ 0 ∷ []) then true else begins_with bytes (0 ∷ 0 ∷ 254 ∷ 255 ∷ [])

-- either order of UTF-16
abbrev pub is_utf16 : Bytes → Bool
is_utf16 bytes = if begins_with bytes (255 ∷ 254 ∷ []) then true else begins_with bytes (254 ∷ 255 ∷ [])

-- the mark that these bytes begin with
abbrev pub mark_of : Bytes → Option ByteOrderMark
mark_of bytes =
    if begins_with bytes (239 ∷ 187 ∷ 191 ∷ []) then Some Utf8
    else (if is_utf32 bytes then Some Utf32
    else (if is_utf16 bytes then Some Utf16 else None))

-- what is wrong with a text that begins with the mark, and what helps
abbrev pub mark_hint : ByteOrderMark → Bytes
mark_hint Utf8 = codes "it begins with a byte order mark: save it as UTF-8 without one, as 'tail -c +4 FILE' does"
mark_hint Utf16 = codes "it is UTF-16, by its byte order mark: save it as UTF-8, as 'iconv -f UTF-16 -t UTF-8 FILE' does"
mark_hint Utf32 = codes "it is UTF-32, by its byte order mark: save it as UTF-8, as 'iconv -f UTF-32 -t UTF-8 FILE' does"
