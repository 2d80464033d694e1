-- What a migration has moved of version 1: it reads the documents one after another, in the order of their incidents'
-- numbers.
use Rattle.std.specs.Prelude.{◌≡◌, ◌<◌, ◌≤◌, ◌^◌, IsUtf8, ℕ, nat_lt, List, [], ◌∷◌, ◌++◌, map, find, Option, Some, None, Ok, take}
use Rattle.std.specs.List.{AllByRecursion}
use Rattle.sqlite_value.specs.declared.value.Value.TheVariants.{Text}
use Rattle.sqlite_value.specs.Order.{Row}
use Rattle.sqlite.specs.Effect.{Database}
use Rattle.iodef_tree.specs.Reading.{reading}
use Rattle.hub_state.specs.Documents.{Lines}
use Rattle.hub_state.specs.Sound.{IsSound}
use Rattle.hub_state.specs.State.{State}
use Rattle.hub_state.specs.declared.TheConstants.{INCIDENT_LIMIT}
use Rattle.hub_state.specs.declared.state.Incident.{Incident}
use Rattle.hub_state.specs.declared.state.Naming.{Naming}
use Rattle.hub_store.specs.Fit.{FitIncident, NoneNamesCommunity}
use Rattle.hub_store.specs.Rows.{document_text}
use Rattle.hub_store.specs.inner.Shown.{naming_shown_2}
use Rattle.hub_store.specs.Items.{items_in, item_row}
use Rattle.hub_store.specs.inner.Beside.{HoldsBeside}

-- The row is that of an incident of version 1, whose text reads as its document and no other.
abbrev pub ShowsIncident : Row → Incident → Type 0
ShowsIncident row i =
    (k : Naming) → (text : List ℕ) → k.community ≡ None → row ≡ naming_shown_2 k ++ Text text ∷ [] →
    (i.naming ≡ k) × (reading text ≡ Ok (i.document ∷ []))

-- the row is that of an incident of version 1 with this naming
abbrev pub ShowsNaming : Row → Naming → Type 0
ShowsNaming row naming =
    (k : Naming) → (text : List ℕ) → k.community ≡ None → row ≡ naming_shown_2 k ++ Text text ∷ [] →
    naming ≡ k

-- the row is that of an incident of version 1 whose text reads as this document
abbrev pub ShowsDocument : Row → Lines → Type 0
ShowsDocument row document =
    (k : Naming) → (text : List ℕ) → row ≡ naming_shown_2 k ++ Text text ∷ [] →
    reading text ≡ Ok (document ∷ [])

-- the columns of an incident of version 1
abbrev pub old_shown : Incident → Row
old_shown i = naming_shown_2 i.naming ++ Text (document_text i.document) ∷ []

-- the columns of the incident can be read back
pub record IsReadable (i : Incident) : Type 0 where
  pub number : i.naming.number < 2 ^ 32
  pub source : i.naming.source < 2 ^ 32
  pub ident : IsUtf8 i.naming.ident
  pub revision : i.naming.revision < 2 ^ 32
  pub text : IsUtf8 (document_text i.document)
  pub back : reading (document_text i.document) ≡ Ok (i.document ∷ [])

-- the first row, if there is one, is that of an incident that can be read back
abbrev pub ReadsFirst : List Row → Type 0
ReadsFirst [] = Unit {0}
ReadsFirst (row ∷ rows) = (i : Incident) × (row ≡ old_shown i) × IsReadable i

-- The state is sound, each document's text is UTF-8, so that it reads back, and no incident names a community.
pub record HasTexts (s : State) : Type 0 where
  pub sound : IsSound s
  pub texts : AllByRecursion FitIncident s.incidents
  pub unnamed : NoneNamesCommunity s

-- the namings of these incidents: all that is kept of them without their documents
abbrev pub naming_in : List Incident → List Naming
naming_in = map (λ (i : Incident). i.naming)

-- the first incident above a number
abbrev pub incident_above : ℕ → State → Option Incident
incident_above n s = find (λ (i : Incident). nat_lt n i.naming.number) s.incidents

-- the incidents up to a number; numbers count from 1, so they are that many
abbrev pub incidents_up_to : ℕ → State → List Incident
incidents_up_to n s = take n s.incidents

-- the lines of the documents up to a number are put, and the namings of their incidents are kept
pub record HoldsMoved (number : ℕ) (kept : List Naming) (db : Database) (s : State) : Type 0 where
  pub moved : HoldsBeside (map item_row (items_in (incidents_up_to number s))) s db
  pub are_kept : kept ≡ naming_in (incidents_up_to number s)

-- A step moved the incident that was found, which has a greater number. If none was found, all are moved.
abbrev pub HoldsNext : ℕ → List Naming → Option ℕ → Database → State → Type 0
HoldsNext number kept (Some found) db s = HoldsMoved found kept db s × (number < found) × (found ≤ INCIDENT_LIMIT)
HoldsNext number kept None db s = HoldsMoved number kept db s × (incidents_up_to number s ≡ s.incidents)
