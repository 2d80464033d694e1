-- The person whose page is made, as it is kept from one incident to the next.
use Rattle.std.specs.Prelude.{◌≡◌, ◌⊎◌, ℕ, nat_eq, Option, Some, None, IfSome}
use Rattle.std.specs.HashMap.{get}
use Rattle.circle.specs.Reads.{person_of}
use Rattle.circle.specs.declared.directory.Person.{Person}
use Rattle.hub_state.specs.State.{State}
use Rattle.hub_state.specs.KeptReaders.{IsReader}
use Rattle.hub_state.specs.Reads.{ties_of}
use Rattle.hub_state.specs.declared.look_ups.Ties.{Ties}
use Rattle.kept_rows.specs.declared.seen.Seen.{Seen}

-- the ties that are kept of the source of this number
abbrev pub kept_ties : Seen → ℕ → Option Ties
kept_ties k n = get nat_eq k.ties n

-- the ties that are kept are those of the person's organisation, if no community is named
abbrev pub AreTies : Seen → Person → State → Type 0
AreTies k p s = (n : ℕ) (t : Ties) → kept_ties k n ≡ Some t → t ≡ ties_of p.org n None s

-- what is kept is of the person of this number
pub record IsSeen (k : Seen) (s : State) : Type 0 where
  pub person : Person
  pub is : person_of k.number s.directory ≡ Some person
  pub reader : IsReader k.reader person s
  pub ties : AreTies k person s

-- the ties are those of before, but perhaps that to this source, which are these
abbrev pub KeepsOnly : ℕ → Ties → Seen → Seen → Type 0
KeepsOnly m ties old new = (n : ℕ) →
    (kept_ties new n ≡ kept_ties old n) ⊎ ((m ≡ n) × IfSome (kept_ties new n) (λ t. t ≡ ties))
