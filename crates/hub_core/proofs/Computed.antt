-- The lemmas that the examples compute with; some read bodies from their bytes.
use Rattle.{std.specs.{Fmt.digits, Str.{chars, is_utf8}}, serde_json.proofs.OnLiterals.serde_json_on_literals, iodef_tree.specs.Reading.{all_fit, reading}}

unfoldable pub computed : Unit {0}
unfolding serde_json_on_literals digits chars is_utf8 all_fit reading
computed = tt
