-- The query of the next incident of version 1, with the table of lines after its tables.
use Rattle.std.proofs.Common.{◌≡◌, ◌≢◌, inl, inr, ℕ, pos, List, [], ◌∷◌, map, codes, nat_lt, Option, Result, IfOk, refl, sym, subst}
use Rattle.{std.proofs.lemmas.Result.IfOk-weaker, sqlite_value.specs.{Order.Row, declared.value.Value.TheVariants.Int}}
use Rattle.{sqlite_trees.proofs.ListLemmas.all-slice_get, sqlite_tied.specs.Compute.everything, sqlite.specs.{Held.{Held, state}, Listing.understood}}
use Rattle.sqlite.specs.{State.{HasCleanDisk, Survives}, declared.error.Error.{Error, TheVariants.SqliteFailure}}
use Rattle.{hub_state.specs.declared.state.Incident.Incident, hub_store.proofs.{Edits.{Inside.goes_asked, Steps.on_any}, Versions.Movable.all_readable}}
use Rattle.hub_store.proofs.Versions.{Movable.first_readable, OldTexts.{next_query, next_listed, reads_next}, ReadRows.{IsReading, read_same, read_answer}}
use Rattle.hub_store.{proofs.Versions.ReadRows.read_fails, specs.{Failing.HasReason, Fit.AreTaken, Holdings.IsHeld, Layout.{incident_part, with_items}}}
use Rattle.hub_store.specs.{Parts.held, Tables.beside_item, inner.{Beside.HoldsBeside, Makes.Makes, Moving.{ShowsIncident, HasTexts, ReadsFirst}}}
use Rattle.hub_store.specs.inner.{Moving.incident_above, Queries.{HasShown, HasRefused}, Shown.ShowsFirst}
use Rattle.sqlite_trees.specs.declared.store.Store as store
use Rattle.sqlite.specs.declared.error.ErrorCode.TheVariants as code
use Rattle.hub_state.specs.State as core

abbrev pub next_incident : List ℕ
next_incident = codes "SELECT number, source, ident, revision, text FROM incident WHERE number > ?1 ORDER BY number LIMIT 1"

abbrev heads : List (List ℕ)
heads = codes "number" ∷ codes "source" ∷ codes "ident" ∷ codes "revision" ∷ codes "text" ∷ []

reading : (number : ℕ) → IsReading beside_item next_incident (Int (pos number) ∷ []) next_query heads
unfolding understood everything
reading number = record { command = refl; whole = (refl, refl, refl, refl); unlisted = refl; accepted = refl; exact = λ db. elim [ inl none ↦ none | inr rows ↦ rows.4 ] }

-- all tables are as they were
pub next_keeps : {S : Type 0} (g : store.Ghosts S) (number : ℕ) (old new : Held S) (rows : List Row) {T : Type 0} (result : Result T Error) (s : core.State) (items : List Row) → Survives (state g old) (state g new) (λ _. ⊥) → (HasCleanDisk (state g new) → HasShown g next_incident (Int (pos number) ∷ []) old new rows)
    → Makes (state g old) (state g new) (HoldsBeside items s) (HoldsBeside items s) result
next_keeps g number old new rows result s items survives shown = record {
  goes = goes_asked g next_incident (Int (pos number) ∷ []) old new rows result survives shown;
  made = λ clean inside has. on_any result _ (subst (HoldsBeside items s) (sym (read_same beside_item next_incident (Int (pos number) ∷ []) next_query heads (reading number) g old new has.parts.known rows (shown clean)).0.now_is) has);
}

-- what the first row is read as is the next incident
pub next_found : {S : Type 0} (g : store.Ghosts S) (number : ℕ) (old new : Held S) (rows : List Row) (result : Result (Option Incident) Error) (s : core.State) (items : List Row) → HasShown g next_incident (Int (pos number) ∷ []) old new rows → HasTexts s → HoldsBeside items s (state g old).now
    → IfOk result (λ found. ShowsFirst ShowsIncident rows found) → IfOk result (λ found. found ≡ incident_above number s)
next_found g number old new rows result s items it has holds read =
    let answer = read_answer beside_item next_incident (Int (pos number) ∷ []) next_query heads (reading number) g old new holds.parts.known rows it in
    let incidents = all-slice_get (IsHeld (state g old).now.trees) (map held (with_items items s)) 9 (held (incident_part s)) refl holds.parts.means in
    let listed = next_listed (state g old).now.trees s number rows has.sound incidents answer in
    IfOk-weaker result _ _ (λ found shows. reads_next s number rows found has listed shows) read

-- it fails only for a limit on steps
pub next_fails : {S : Type 0} (g : store.Ghosts S) (number : ℕ) (old new : Held S) (e : Error) (s : core.State) (items : List Row) → HasRefused g next_incident (Int (pos number) ∷ []) old new e → HoldsBeside items s (state g old).now → e ≢ SqliteFailure code.OutOfMemory → HasReason (state g old) (state g new)
next_fails g number old new e s items it holds other = read_fails beside_item next_incident (Int (pos number) ∷ []) next_query heads (reading number) g old new holds.parts.known e it other

-- the row that it shows, if any, can be read
pub next_reads : {S : Type 0} (g : store.Ghosts S) (number : ℕ) (old new : Held S) (rows : List Row) (s : core.State) (items : List Row) → HasShown g next_incident (Int (pos number) ∷ []) old new rows → HasTexts s → AreTaken s → HoldsBeside items s (state g old).now → ReadsFirst rows
next_reads g number old new rows s items it has taken holds =
    let answer = read_answer beside_item next_incident (Int (pos number) ∷ []) next_query heads (reading number) g old new holds.parts.known rows it in
    let incidents = all-slice_get (IsHeld (state g old).now.trees) (map held (with_items items s)) 9 (held (incident_part s)) refl holds.parts.means in
    subst ReadsFirst (sym (next_listed (state g old).now.trees s number rows has.sound incidents answer)) (first_readable (λ (i : Incident). nat_lt number i.naming.number) s.incidents (all_readable s has taken))
