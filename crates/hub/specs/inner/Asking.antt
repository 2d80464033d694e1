-- Who the caller is.
use Rattle.std.specs.Prelude.{◌≡◌, Some}
use Rattle.hub_core.specs.State.{State}
use Rattle.circle.specs.Reads.{person_of}
use Rattle.circle.specs.declared.directory.Person.{Person}

-- the state has this person, as it is here
abbrev pub IsThere : State → Person → Type 0
IsThere s p = person_of p.number s.directory ≡ Some p
