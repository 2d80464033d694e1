-- A read in a transaction that may ask nothing.
use Rattle.std.specs.Prelude.{Result, IfOk, OnOk, IsTrue}
use Rattle.sqlite.specs.declared.error.Error.{Error}
use Rattle.sqlite.specs.State.{State, HasCleanDisk, KeepsCommit, IsUnchanged, Survives}
use Rattle.hub_state.specs.Sound.{IsSound}
use Rattle.hub_store.specs.Keeps.{Knows}
use Rattle.hub_store.specs.Means.{Holds}
use Rattle.hub_state.specs.State as core

-- A read in a transaction whose Ok doesn't mean that the store is open.
pub record IsLook {T : Type 0} (old new : State) (Right : core.State → T → Type 0) (result : Result T Error) : Type 0 where
  pub survives : Survives old new (λ _. ⊥)
  pub kept : HasCleanDisk new → Knows old → KeepsCommit old new
  pub same : HasCleanDisk new → Knows old → OnOk result (IsTrue old.is_open → IsUnchanged old new)
  pub right : HasCleanDisk new → (s : core.State) → Holds old.now s → IsSound s → IfOk result (Right s)
