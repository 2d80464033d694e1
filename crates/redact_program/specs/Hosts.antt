-- The host in memory, of which all is known.
use Rattle.std.specs.Prelude.{◌≡◌, ◌⊎◌, List, Option, Some, None, Err, find, map, string_bytes}
use Rattle.std.specs.Str.{bytes_eq}
use Rattle.std.specs.declared.io.ErrorKind.TheVariants.{NotFound, OutOfMemory}
use Rattle.iodef_tree.specs.Text.{Bytes}
use Rattle.redact_program.specs.Streams.{Given, copied_content}
use Rattle.redact_program.specs.declared.host.File.{File}
use Rattle.redact_program.specs.declared.host.Memory.{Memory}

-- what a file gives, or that there is none
abbrev pub given_by : Option File → Given
given_by (Some f) = copied_content f.content
given_by None = Err NotFound

-- what the first file of a name gives
abbrev pub file_gives : List File → Bytes → Given
file_gives files name = given_by (find (λ f. bytes_eq f.name.now name) files)

-- a call gives what the files give, unless memory ran out
abbrev pub MemoryGives : Memory → Bytes → Given → Type 0
MemoryGives m name given = (given ≡ file_gives m.files.now name) ⊎ (given ≡ Err OutOfMemory)

-- the names that were opened
abbrev pub memory_opened : Memory → List Bytes
memory_opened m = map string_bytes m.opened.items
