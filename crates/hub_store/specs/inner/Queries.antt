-- What a query in a transaction leaves and shows.
use Rattle.std.specs.Prelude.{◌≡◌, ◌⊎◌, List, ℕ, Result, IfOk, OnOk, IsTrue}
use Rattle.sqlite_value.specs.Order.{Row}
use Rattle.sqlite.specs.declared.error.Error.{Error}
use Rattle.sqlite.specs.Held.{Held, state}
use Rattle.sqlite.specs.State.{State, HasCleanDisk, KeepsCommit, IsUnchanged, Shown, FailsToQuery, IsTooLate, Survives}
use Rattle.hub_state.specs.Sound.{IsSound}
use Rattle.hub_store.specs.Content.{Has}
use Rattle.hub_store.specs.Keeps.{Knows, KeepsCommitted}
use Rattle.hub_store.specs.Means.{Holds}
use Rattle.sqlite_trees.specs.declared.store.Store as store
use Rattle.hub_state.specs.State as core

-- the text was prepared, which changed nothing, and showed these rows
pub record HasShown {S : Type 0} (g : store.Ghosts S) (text : List ℕ) (params : Row) (old new : Held S) (rows : List Row) : Type 0 where
  pub mid : Held S
  pub same : IsUnchanged (state g old) (state g mid)
  pub shown : Shown text params (state g mid) (state g new) rows

-- the text failed, when it was prepared or when it was asked
pub record HasRefused {S : Type 0} (g : store.Ghosts S) (text : List ℕ) (params : Row) (old new : Held S) (e : Error) : Type 0 where
  pub mid : Held S
  pub survives : Survives (state g old) (state g mid) (λ _. ⊥)
  pub now : (state g mid).now ≡ (state g old).now
  pub is_open : IsTrue (state g old).is_open → IsTrue (state g mid).is_open
  pub fails : FailsToQuery text params (state g mid) (state g new) e ⊎
      IsTooLate text params (state g mid) (state g new) e

-- A read in a transaction. It commits nothing, after Ok all is as it was, and its result is right for the state that
-- the tables stand for.
pub record IsReadInside {T : Type 0} (old new : State) (Right : core.State → T → Type 0) (result : Result T Error) : Type 0 where
  pub survives : Survives old new (λ _. ⊥)
  pub kept : HasCleanDisk new → Knows old → KeepsCommit old new
  pub same : HasCleanDisk new → Knows old → OnOk result (IsUnchanged old new)
  pub right : HasCleanDisk new → (s : core.State) → Holds old.now s → IsSound s → IfOk result (Right s)

-- A read of the connection. The last commit stays, nothing is committed, and the result is right for the state that the
-- connection has.
pub record IsReadOutside {T : Type 0} (old new : State) (Right : core.State → T → Type 0) (result : Result T Error) : Type 0 where
  pub survives : Survives old new (λ _. ⊥)
  pub kept : HasCleanDisk new → Knows old → KeepsCommitted old new
  pub right : HasCleanDisk new → (s : core.State) → Has old s → IfOk result (Right s)
