-- What a migration has moved, document by document.
use Rattle.std.proofs.{Common.{◌≡◌, ℕ, [], ◌∷◌, ◌++◌, map, Some, None, sym, ap, subst, ◌∙◌, arith, take}, lemmas.List.map-append}
use Rattle.{std.proofs.lemmas.List.Sorted.IsPermutation-append_comm, hub_state.specs.{Sound.IsSound, State.State, declared.state.Incident.Incident}}
use Rattle.hub_store.{proofs.{Rows.Items.items_put, Versions.OldTexts.{next_at, up_to_all}}, specs.{Items.{items_in, item_row}, inner.Moving.incident_above}}
use Rattle.hub_store.specs.inner.{Moving.{incidents_up_to, naming_in}, PutsLines.HasMore}

-- with the next there is one more
next_up_to : (s : State) (number : ℕ) (i : Incident) → IsSound s → incident_above number s ≡ Some i → incidents_up_to i.naming.number s ≡ incidents_up_to number s ++ i ∷ []
next_up_to s number i sound is = let next = next_at number 0 number s.incidents i (omega arith) sound.incidents.numbered.0 is in ap (λ n. take n s.incidents) next.0 ∙ next.1

-- its lines are put
pub next_more : (s : State) (number : ℕ) (i : Incident) → IsSound s → incident_above number s ≡ Some i
    → HasMore i.naming.number 1 i.document (map item_row (items_in (incidents_up_to number s))) (map item_row (items_in (incidents_up_to i.naming.number s)))
next_more s number i sound is =
    let before = incidents_up_to number s in
    subst (λ after. HasMore i.naming.number 1 i.document (map item_row (items_in before)) (map item_row (items_in after))) (sym (next_up_to s number i sound is))
    (items_put i before (before ++ i ∷ []) (IsPermutation-append_comm (i ∷ []) before))

-- and the rest of its row is kept
pub next_kept : (s : State) (number : ℕ) (i : Incident) → IsSound s → incident_above number s ≡ Some i → naming_in (incidents_up_to i.naming.number s) ≡ naming_in (incidents_up_to number s) ++ i.naming ∷ []
next_kept s number i sound is = ap naming_in (next_up_to s number i sound is) ∙ map-append (λ (j : Incident). j.naming) (incidents_up_to number s) (i ∷ [])

pub all_moved : (s : State) (number : ℕ) → IsSound s → incident_above number s ≡ None → incidents_up_to number s ≡ s.incidents
all_moved s number sound none = up_to_all number 0 number s.incidents (omega arith) sound.incidents.numbered.0 none
