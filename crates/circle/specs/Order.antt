-- The grounds of each command are in the order of the codes.
use Rattle.std.specs.Prelude.{ℕ, Bool, true, ◌&&◌, nat_le, List, [], ◌∷◌, IsTrue}
use Rattle.circle.specs.declared.directory.Person.{Person}
use Rattle.circle.specs.declared.command.CircleCommand.{CircleCommand}
use Rattle.circle.specs.Codes.{place_in_order}
use Rattle.circle.specs.Directory.{Directory}
use Rattle.circle.specs.Refusals.{Ground, grounds}

-- the codes of these grounds are in order, from this place on
abbrev pub in_order_from : ℕ → List Ground → Bool
in_order_from n [] = true
in_order_from n (g ∷ gs) = nat_le n (place_in_order g.answer.code) && in_order_from (place_in_order g.answer.code) gs

-- The law that the grounds of each command are in the order of the codes.
abbrev pub GroundsAscend : Type 0
GroundsAscend = (d : Directory) (actor : Person) (command : CircleCommand) → IsTrue (in_order_from 0 (grounds d actor command))
