-- What an opening returns, by what the query for the version left.
use Rattle.{std.proofs.Common.{◌≡◌, ℕ, Some}, sqlite.specs.State.{State, HasCleanDisk, Survives}, hub_store.proofs.Edits.Runs.kept_has}
use Rattle.hub_store.specs.{Failing.HasReason, Keeps.KeepsCommitted, Opening.{newest, IsOpenFault, IsOpened, IsRefused}, Versions.version_of}
use Rattle.hub_store.specs.declared.sql_shelf.OpenFault.{OpenFault, TheVariants.Failed}

module _ (old new : State) (survives : Survives old new (λ _. ⊥)) (kept : HasCleanDisk new → KeepsCommitted old new) where
  pub is_opened : (failures : ℕ) → (HasCleanDisk new → version_of old.now ≡ Some newest) → failures ≡ 0 → IsOpened old new failures
  is_opened failures version begun = record { version = version; kept = kept; content = λ clean s has. kept_has old new s (kept clean) has; begun = begun; survives = survives }

  pub is_refused : (fault : OpenFault) → (HasCleanDisk new → IsOpenFault old.now fault) → (HasCleanDisk new → fault ≡ Failed → HasReason old new) → IsRefused old new fault
  is_refused fault why cause = record { why = why; cause = cause; kept = kept; content = λ clean s has. kept_has old new s (kept clean) has; survives = survives }
