-- The markings of an incident that is found are accepted.
use Rattle.std.{proofs.Common.{◌≡◌, ℕ, ◌&&◌, ◌==◌, false, Option, Some, None, refl, sym, ◌∙◌, ap}, specs.{Option.option_map_or, Prelude.{is_none, option_map}}}
use Rattle.{iodef_tree.specs.Paths.located, marking.specs.Marks.first_bad_marking, policy.specs.declared.{case.Case.Case, standing.Standing.Standing}}
use Rattle.{redact.specs.{Wants.meets, declared.want.Want.Want}, hub_state.{proofs.Keeping.found_each, specs.{Documents.Lines, Reads.meets_marked}}}
use Rattle.hub_state.specs.{Reads.met_by_incident, Sound.{IsSound, IsAccepted}, State.{State, incident_of}, declared.state.Incident.Incident}

abbrev pub IsMarked : Option Incident → Type 0
IsMarked None = Unit {0}
IsMarked (Some i) = first_bad_marking (located i.document) ≡ None

pub marked_found : (s : State) (n : ℕ) → IsSound s → IsMarked (incident_of n s)
marked_found s n sound = by_case (incident_of n s) refl
  where
    by_case : (o : Option Incident) → incident_of n s ≡ o → IsMarked o
    by_case None at = tt
    by_case (Some i) at = (found_each (λ (j : Incident). IsAccepted j.document) (λ (j : Incident). j.naming.number == n) s.incidents i at sound.incidents.documents).marked

pub marked : (s : State) (n : ℕ) (ls : Lines) → IsSound s → Some ls ≡ option_map (λ (i : Incident). i.document) (incident_of n s) → first_bad_marking (located ls) ≡ None
marked s n ls sound is = by_case (incident_of n s) (marked_found s n sound) is
  where
    by_case : (o : Option Incident) → IsMarked o → Some ls ≡ option_map (λ (i : Incident). i.document) o → first_bad_marking (located ls) ≡ None
    by_case None accepted k = cc
    by_case (Some i) accepted k =
        let same : i.document ≡ ls = cc in
        ap (λ d. first_bad_marking (located d)) (sym same) ∙ accepted

-- so it meets a want exactly if its lines do
pub met_found : (n : ℕ) (c : Case) (st : Standing) (w : Want) (s : State) → IsSound s → met_by_incident n c st w s ≡ option_map_or (λ (i : Incident). meets w i.document c st) (incident_of n s) false
met_found n c st w s sound = by_case (incident_of n s) (marked_found s n sound)
  where
    by_case : (o : Option Incident) → IsMarked o →
        option_map_or (λ (ls : Lines). meets_marked w ls c st) (option_map (λ (i : Incident). i.document) o) false ≡ option_map_or (λ (i : Incident). meets w i.document c st) o false
    by_case None accepted = refl
    by_case (Some i) accepted = ap (λ bad. is_none bad && meets w i.document c st) accepted
