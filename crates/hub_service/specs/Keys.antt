-- The key of a reader on standard input, and the digest of an administrator's key among the words.
use Rattle.std.specs.Prelude.{◌⊎◌, ℕ, List, [], ◌∷◌, ◌++◌, ◌==◌, length, ◌&&◌, nat_le, not, if◌then◌else◌, Bool, Option, Some, None, Result, Ok, Err, IsTrue}
use Rattle.std.specs.List.{list_all}
use Rattle.std.specs.Io.KnownBytes.{Consumes, IsAtEnd}
use Rattle.hex.specs.Hex.{decode_sized}
use Rattle.hub.specs.declared.key.Key.{Key}
use Rattle.hub.specs.declared.key.Key.TheVariants.{Absent}
use Rattle.hub_http.specs.declared.TheConstants.{KEY_LIMIT}
use Rattle.hub_http.specs.Fields.{is_visible, key_shown}

-- the byte is no newline
abbrev pub is_no_newline : ℕ → Bool
is_no_newline b = not (b == 10)

-- the bytes that were read are the first line, and then its newline or the end of the input
abbrev pub IsFirstLine : Option (List ℕ) → Option (List ℕ) → List ℕ → Type 0
IsFirstLine before after line =
    IsTrue (list_all is_no_newline line) ×
    (Consumes before after (line ++ 10 ∷ []) ⊎ (Consumes before after line × IsAtEnd after))

-- 1 to KEY_LIMIT visible ASCII characters
abbrev pub is_key : List ℕ → Bool
is_key line = nat_le 1 (length line) && nat_le (length line) KEY_LIMIT && list_all is_visible line

-- the key of a line: its SHA-256, or `Absent` if the line can't be a key
abbrev pub line_key : List ℕ → Key
line_key line = if is_key line then key_shown line else Absent

-- the bytes, if they could be decoded
abbrev pub if_decoded : {E : Type 0} → Result (List ℕ) E → Option (List ℕ)
if_decoded (Ok bytes) = Some bytes
if_decoded (Err e) = None

-- the 32 bytes that 64 hexadecimal digits spell
abbrev pub digest_of : List ℕ → Option (List ℕ)
digest_of text = if_decoded (decode_sized text 32)
