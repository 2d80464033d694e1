-- JSON pointers (RFC 6901).
use Rattle.std.specs.Prelude.{◌≡◌, ℕ, List, [], ◌∷◌, ◌==◌, ◌||◌, Bool, true, false, if◌then◌else◌, Option, Some, None, option_map, codes}
use Rattle.std.specs.List.{flat_map, slice_split}
use Rattle.std.specs.Str.{byte}
use Rattle.json_pointer.specs.Text.{Bytes, Tokens}
use Rattle.json_pointer.specs.declared.pointer.PathFault.{PathFault}
use Rattle.json_pointer.specs.declared.pointer.PathFault.TheVariants.{BadPath, NoMemory}

-- `~` is written `~0`, and `/` is written `~1` (section 3)
abbrev pub escaped_byte : ℕ → Bytes
escaped_byte c = if c == byte "~" then codes "~0" else (if c == byte "/" then codes "~1" else c ∷ [])

-- whether a pointer escapes the byte: it is `~` or `/`
abbrev pub is_escaped_byte : ℕ → Bool
is_escaped_byte c = (c == byte "~") || (c == byte "/")

-- a token as a pointer writes it: each `~` as `~0` and each `/` as `~1` (section 3)
abbrev pub escaped : Bytes → Bytes
escaped token = flat_map escaped_byte token

-- the JSON pointer of a path: a slash before each token, which is escaped (section 3)
abbrev pub pointer_text : Tokens → Bytes
pointer_text p = flat_map (λ token. byte "/" ∷ escaped token) p

-- the byte that a `~` and this one mean together: `~0` is `~` and `~1` is `/` (section 4)
abbrev pub escaped_by : ℕ → Option ℕ
escaped_by c = if c == byte "0" then Some (byte "~") else (if c == byte "1" then Some (byte "/") else None)

-- one element more in front of a list; none if either is missing
abbrev pub with_first : {A : Type 0} → Option A → Option (List A) → Option (List A)
with_first None others = None
with_first (Some x) others = option_map (λ xs. x ∷ xs) others

-- What is left to read of a token, behind a `~` (true) or not. A `~` that neither `0` nor `1` follows gives nothing
-- (sections 3 and 4).
abbrev pub unescaped_from : Bool → Bytes → Option Bytes
unescaped_from false [] = Some []
unescaped_from false (c ∷ cs) =
    if c == byte "~" then unescaped_from true cs else with_first (Some c) (unescaped_from false cs)
unescaped_from true [] = None
unescaped_from true (c ∷ cs) = with_first (escaped_by c) (unescaped_from false cs)

-- the token that these bytes of a pointer mean, or none if a `~` in them is no escape
abbrev pub unescaped : Bytes → Option Bytes
unescaped written = unescaped_from false written

-- the tokens that these texts mean, or none if one of them means none
abbrev pub each_unescaped : List Bytes → Option Tokens
each_unescaped [] = Some []
each_unescaped (w ∷ ws) = with_first (unescaped w) (each_unescaped ws)

-- whether the byte is `/`
abbrev pub is_slash : ℕ → Bool
is_slash b = b == byte "/"

-- the tokens of a pointer behind its first slash, with a slash between each two
abbrev pub slash_separated : Bytes → Option Tokens
slash_separated written = each_unescaped (slice_split is_slash written)

-- the path of which a text is the JSON pointer: the text is empty, or has a slash before each token (section 3)
abbrev pub pointer_tokens : Bytes → Option Tokens
pointer_tokens [] = Some []
pointer_tokens (c ∷ cs) = if is_slash c then slash_separated cs else None

-- the name of a fault: `BadPath` if a text is no JSON pointer, `NoMemory` if memory runs out
abbrev pub fault_name : PathFault → Bytes
fault_name BadPath = codes "BadPath"
fault_name NoMemory = codes "NoMemory"

-- ---- laws

-- The law that the pointer of a path is read as that path.
abbrev pub PointerIsRead : Type 0
PointerIsRead = (p : Tokens) → pointer_tokens (pointer_text p) ≡ Some p

-- The law that a text that is read as a path is the pointer of that path.
abbrev pub ReadIsPrinted : Type 0
ReadIsPrinted = (text : Bytes) (p : Tokens) → pointer_tokens text ≡ Some p → pointer_text p ≡ text
