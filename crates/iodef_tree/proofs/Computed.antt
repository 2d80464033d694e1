-- The definitions that the examples unfold.
use Rattle.{std.specs.Fmt.digits, serde_json.proofs.OnLiterals.serde_json_on_literals}

unfoldable pub computed : Unit {0}
unfolding serde_json_on_literals digits
computed = tt
