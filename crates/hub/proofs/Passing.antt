-- An incident that can be passed over without its document.
use Rattle.std.{proofs.Common.{◌≡◌, ℕ, Bool, true, false, ◌&&◌, Option, Some, None, refl, ◌∙◌, ap}, specs.{Option.option_map_or, Prelude.{ℤ, option_map}}}
use Rattle.{policy.specs.declared.{case.Case.Case, standing.Standing.Standing}, redact.specs.{Wants.meets, declared.want.Want.Want}}
use Rattle.{circle.specs.declared.directory.Person.Person, hub_core.specs.{Reads.case_for, Sound.IsSound, State.{State, incident_of}}}
use Rattle.hub_state.{proofs.Marked.met_found, specs.{Reads.{case_of, met_by_incident, met_for}, declared.state.Incident.Incident}}
use Rattle.hub.{proofs.Standings.standing_of-there, specs.{Told.standing_at, declared.page_filter.PageFilter.PageFilter, inner.Asking.IsThere}}
use Rattle.hub.specs.inner.PageFilter.{admits, is_wanted, is_wanted_at}

module _ (s : State) (now : ℤ) (p : Person) (w : Want) (n : ℕ) where
  -- the incident meets the want for the person, by its document
  abbrev pub met : Incident → Bool
  met i = meets w i.document (case_for s i) (standing_at s now p i)

  -- by a standing and a case
  abbrev by_both : Option Standing → Option Case → Bool
  by_both st c = option_map_or (λ (t : Standing). option_map_or (λ (d : Case). met_by_incident n d t w s) c false) st false

  pub met_there : IsSound s → IsThere s p → met_for p.number n now w s ≡ option_map_or met (incident_of n s) false
  met_there sound there = ap (λ st. by_both st (case_of n s)) (standing_of-there s now p n there) ∙ by_case (incident_of n s) refl
    where
      by_case : (o : Option Incident) → incident_of n s ≡ o → by_both (option_map (λ (i : Incident). standing_at s now p i) o) (option_map (case_for s) o) ≡ option_map_or met o false
      by_case None is = refl
      by_case (Some i) is =
          met_found n (case_for s i) (standing_at s now p i) w s sound
          ∙ ap (λ o. option_map_or (λ (j : Incident). meets w j.document (case_for s i) (standing_at s now p i)) o false) is

-- a page doesn't list an incident that doesn't meet its want
pub unwanted : (s : State) (now : ℤ) (p : Person) (w : PageFilter) (n : ℕ) → option_map_or (met s now p w.want.now n) (incident_of n s) false ≡ false → is_wanted_at s now p w n ≡ false
unwanted s now p w n h = by_case (incident_of n s) h
  where
    both : (a b : Bool) → b ≡ false → (a && b) ≡ false
    both true b k = k
    both false b k = refl

    by_case : (o : Option Incident) → option_map_or (met s now p w.want.now n) o false ≡ false → option_map_or (is_wanted s now p w) o false ≡ false
    by_case None k = refl
    by_case (Some i) k = both (admits w (standing_at s now p i)) (met s now p w.want.now n i) k
