-- The bytes of a JSON string (RFC 8259 section 7), and of a JSON string whose text is a JSON pointer (RFC 6901).
use Rattle.std.specs.Prelude.{ℕ, List}
use Rattle.std.specs.List.{flat_map}
use Rattle.json.specs.Print.{escape_byte, escape}
use Rattle.iodef_tree.specs.Pointer.{escaped_byte}
use Rattle.json_text.specs.declared.escape.Within.{Within}
use Rattle.json_text.specs.declared.escape.Within.TheVariants.{Text, Token}

-- how a JSON string holds one byte: of its text, or of a reference token of the pointer that is its text
abbrev pub shown_byte : Within → ℕ → List ℕ
shown_byte Text = escape_byte
shown_byte Token = λ byte. escape (escaped_byte byte)

-- how a JSON string holds a list of bytes: of its text, or of a reference token of the pointer that is its text
abbrev pub shown_bytes : Within → List ℕ → List ℕ
shown_bytes within bytes = flat_map (shown_byte within) bytes
