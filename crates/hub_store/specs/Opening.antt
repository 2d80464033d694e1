-- What an opening returns, and why a store isn't opened.
use Rattle.std.specs.Prelude.{◌≡◌, ◌≢◌, ◌⊎◌, ◌↔◌, ◌&&◌, nat_lt, ℕ, Bool, false, Option, Some, None, IsTrue}
use Rattle.sqlite_trees.specs.Tree.{Trees}
use Rattle.sqlite.specs.Effect.{Database}
use Rattle.sqlite.specs.State.{State, HasCleanDisk, Survives}
use Rattle.hub_store.specs.Means.{TreesHold}
use Rattle.hub_store.specs.Content.{Has, HasAs, MayLeave}
use Rattle.hub_store.specs.Fit.{AreTaken}
use Rattle.hub_store.specs.Keeps.{KeepsCommitted}
use Rattle.hub_store.specs.Versions.{version_of}
use Rattle.hub_store.specs.Failing.{HasReason}
use Rattle.hub_state.specs.declared.shelf.ShelfFault.{ShelfFault}
use Rattle.hub_store.specs.declared.sql_shelf.OpenFault.{OpenFault}
use Rattle.hub_store.specs.declared.sql_shelf.OpenFault.TheVariants.{NotOurs, WrongVersion, Failed, NoMemory}
use Rattle.hub_state.specs.State as core
use Rattle.hub_state.specs.declared.shelf.ShelfFault.TheVariants as shelf
pub use Rattle.hub_store.specs.Layout.{newest}

-- a version that a migration brings to the newest
abbrev pub is_older : ℕ → Bool
is_older v = nat_lt 0 v && nat_lt v newest

-- NotOurs: the store has no version. WrongVersion: it has another than the newest. The other two say nothing of the
-- tables.
abbrev pub IsOpenFault : Database → OpenFault → Type 0
IsOpenFault db NotOurs = version_of db ≡ None
IsOpenFault db (WrongVersion n) = (version_of db ≡ Some n) × (n ≢ newest)
IsOpenFault db Failed = Unit {0}
IsOpenFault db NoMemory = Unit {0}

-- the fault of an opening for a shelf's fault
abbrev pub opened_as : ShelfFault → OpenFault
opened_as shelf.NoMemory = NoMemory
opened_as shelf.Failed = Failed

-- The store is of the newest version. It keeps its last commit, and so its content. No failure is counted, and nothing
-- was written.
pub record IsOpened (old new : State) (failures : ℕ) : Type 0 where
  pub version : HasCleanDisk new → version_of old.now ≡ Some newest
  pub kept : HasCleanDisk new → KeepsCommitted old new
  pub content : HasCleanDisk new → (s : core.State) → Has old s → Has new s
  pub begun : failures ≡ 0
  pub survives : Survives old new (λ _. ⊥)

-- The store isn't opened, for this reason. It keeps its last commit, whatever store it is, and so its content. Nothing
-- was written.
pub record IsRefused (old new : State) (fault : OpenFault) : Type 0 where
  pub why : HasCleanDisk new → IsOpenFault old.now fault
  pub cause : HasCleanDisk new → fault ≡ Failed → HasReason old new
  pub kept : HasCleanDisk new → KeepsCommitted old new
  pub content : HasCleanDisk new → (s : core.State) → Has old s → Has new s
  pub survives : Survives old new (λ _. ⊥)

-- ---- a store brought to the newest version

-- the fault of a migration, for which an older version is no fault
abbrev pub IsMigrationFault : Database → OpenFault → Type 0
IsMigrationFault db (WrongVersion n) = (version_of db ≡ Some n) × (n ≢ newest) × (is_older n ≡ false)
IsMigrationFault db fault = IsOpenFault db fault

-- the store has a version that a migration brings to the newest
abbrev pub IsOld : Database → Type 0
IsOld db = (v : ℕ) × IsTrue (is_older v) × (version_of db ≡ Some v)

-- the trees are the newest version with the content of this version
abbrev pub IsRenewedFrom : ℕ → State → Trees → Type 0
IsRenewedFrom v old left = (s : core.State) → HasAs v old s → TreesHold left s

-- the trees are the newest version with the content of whichever older version there was
abbrev pub IsRenewed : State → Trees → Type 0
IsRenewed old left = (v : ℕ) → IsTrue (is_older v) → IsRenewedFrom v old left

-- the tables of this version were brought to the newest
pub record IsBrought (found : ℕ) (old new : State) (failures : ℕ) : Type 0 where
  pub was_open : HasCleanDisk new → IsTrue old.is_open
  pub content : HasCleanDisk new → (s : core.State) → HasAs found old s → Has new s
  pub now : HasCleanDisk new → (s : core.State) → HasAs found old s → version_of new.now ≡ Some newest
  pub durable : HasCleanDisk new → (s : core.State) → HasAs found old s → (left : Option core.State) →
      MayLeave new left ↔ (left ≡ Some s)
  pub begun : failures ≡ 0
  pub survives : Survives old new (IsRenewedFrom found old)

-- tables of this version were not brought to the newest, and the last commit stays
pub record IsNotBrought (found : ℕ) (old new : State) (fault : OpenFault) : Type 0 where
  pub why : (fault ≡ Failed) ⊎ (fault ≡ NoMemory)
  pub cause : HasCleanDisk new → fault ≡ Failed → (s : core.State) → HasAs found old s → AreTaken s → HasReason old new
  pub kept : HasCleanDisk new → KeepsCommitted old new
  pub survives : Survives old new (IsRenewedFrom found old)

-- The store was of the newest version or an older one. It is of the newest now, with the same content, and no failure
-- is counted.
pub record IsMigrated (old new : State) (failures : ℕ) : Type 0 where
  pub version : HasCleanDisk new → (version_of old.now ≡ Some newest) ⊎ IsOld old.now
  pub content : HasCleanDisk new → (s : core.State) → Has old s → Has new s
  pub moved : HasCleanDisk new → (v : ℕ) → IsTrue (is_older v) → (s : core.State) → HasAs v old s → Has new s
  pub now : HasCleanDisk new → (v : ℕ) → IsTrue (is_older v) → (s : core.State) → HasAs v old s →
      version_of new.now ≡ Some newest
  -- from here on a crash leaves the newest version with that content, and nothing else
  pub durable : HasCleanDisk new → (v : ℕ) → IsTrue (is_older v) → (s : core.State) → HasAs v old s →
      (left : Option core.State) → MayLeave new left ↔ (left ≡ Some s)
  -- if it was of the newest version, nothing changes
  pub same : HasCleanDisk new → version_of old.now ≡ Some newest → KeepsCommitted old new
  pub begun : failures ≡ 0
  -- a crash before may leave what it could have left before, or the newest version with that content
  pub survives : Survives old new (IsRenewed old)
  pub unwritten : HasCleanDisk new → version_of old.now ≡ Some newest → Survives old new (λ _. ⊥)

-- The store wasn't brought to the newest version, for this reason. It keeps its last commit, whatever store it is, and
-- so its version and its content.
pub record IsUnmigrated (old new : State) (fault : OpenFault) : Type 0 where
  pub why : HasCleanDisk new → IsMigrationFault old.now fault
  pub cause : HasCleanDisk new → fault ≡ Failed → HasReason old new ⊎ IsOld old.now
  -- an older version that stands for a state is Failed only for a reason too, if SQLite takes the rows that the
  -- migration puts
  pub failed : HasCleanDisk new → fault ≡ Failed → (v : ℕ) → IsTrue (is_older v) → (s : core.State) →
      HasAs v old s → AreTaken s → HasReason old new
  pub kept : HasCleanDisk new → KeepsCommitted old new
  pub content : HasCleanDisk new → (v : ℕ) → (s : core.State) → HasAs v old s → HasAs v new s
  -- a crash may leave what it could have left before, or, for an older version, the newest with that content
  pub survives : Survives old new (IsRenewed old)
  pub unwritten : HasCleanDisk new → ¬ IsOld old.now → Survives old new (λ _. ⊥)
