-- The words of a question: texts in UTF-8.
use Rattle.std.specs.Prelude.{if◌then◌else◌, Option, Some, None, Ok, Err}
use Rattle.std.specs.Str.{is_utf8}
use Rattle.iodef_tree.specs.Text.{Bytes}
use Rattle.redaction.specs.Outcome.{Read, ◌>>=◌}
use Rattle.redaction.specs.declared.fault.Fault.TheVariants.{NotUtf8}

-- these bytes if they are a text in UTF-8, else NotUtf8
abbrev pub word_of : Bytes → Read Bytes
word_of bytes = if is_utf8 bytes then Ok bytes else Err NotUtf8

-- bytes, if there are any, that are a text in UTF-8, else NotUtf8
abbrev pub some_word_of : Option Bytes → Read (Option Bytes)
some_word_of None = Ok None
some_word_of (Some bytes) = word_of bytes >>= λ text. Ok (Some text)
