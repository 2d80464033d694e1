-- The definitions that the examples unfold.
use Rattle.std.specs.Fmt.{digits}

unfoldable pub computed : Unit {0}
unfolding digits
computed = tt
