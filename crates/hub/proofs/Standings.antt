-- How a person of the state stands to an incident, at a moment.
use Rattle.{std.{proofs.Common.{◌≡◌, ℕ, Option, Some, None, refl, sym, ◌∙◌, ap}, specs.Prelude.{ℤ, option_map, option_and_then}}, circle.specs.Reads.person_of}
use Rattle.{circle.specs.declared.directory.Person.Person, hub_core.specs.{Reads.{standing_for, standing_of}, State.{State, incident_of}}}
use Rattle.{hub_state.specs.declared.state.Incident.Incident, hub.specs.{Told.standing_at, inner.{Asking.IsThere, Explaining.standing_between}}}

pub standing_at-is : (s : State) (now : ℤ) (p : Person) (i : Incident) → standing_at s now p i ≡ standing_for s now p i
unfolding standing_at
standing_at-is s now p i = refl

map_standing : (s : State) (now : ℤ) (p : Person) (o : Option Incident) → option_map (standing_for s now p) o ≡ option_map (λ (i : Incident). standing_at s now p i) o
map_standing s now p None = refl
map_standing s now p (Some i) = ap Some (sym (standing_at-is s now p i))

-- of the person of this number
pub standing_of-numbered : (s : State) (now : ℤ) (person n : ℕ) → standing_of person n now s ≡ standing_between s now (person_of person s.directory) (incident_of n s)
standing_of-numbered s now person n = by_case (person_of person s.directory)
  where
    by_case : (o : Option Person) → option_and_then (λ (q : Person). option_map (standing_for s now q) (incident_of n s)) o ≡ standing_between s now o (incident_of n s)
    by_case None = refl
    by_case (Some p) = map_standing s now p (incident_of n s)

pub standing_of-there : (s : State) (now : ℤ) (p : Person) (n : ℕ) → IsThere s p → standing_of p.number n now s ≡ option_map (λ (i : Incident). standing_at s now p i) (incident_of n s)
standing_of-there s now p n is =
    ap (option_and_then (λ (q : Person). option_map (standing_for s now q) (incident_of n s))) is ∙ map_standing s now p (incident_of n s)
