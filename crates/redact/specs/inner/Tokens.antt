-- The tokens of a pass, as a path.
use Rattle.std.specs.Prelude.{List, map, decimal}
use Rattle.iodef_tree.specs.Text.{Bytes, Tokens}
use Rattle.redact.specs.declared.trail.Token.{Token}
use Rattle.redact.specs.declared.trail.Token.TheVariants as token

-- a token of the program as a reference token: a name, or the digits of a place
abbrev pub token_of : Token → Bytes
token_of (token.Name name) = name.now
token_of (token.Index k) = decimal k

-- tokens of the program as a path
abbrev pub path_of : List Token → Tokens
path_of ts = map token_of ts
