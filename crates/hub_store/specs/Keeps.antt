-- What a call of the connection leaves, whatever it returns.
use Rattle.std.specs.Prelude.{◌≡◌, ℕ, List, Result, Ok, Err, OnOk, IsTrue}
use Rattle.sqlite_value.specs.Order.{Row}
use Rattle.sqlite.specs.declared.error.Error.{Error}
use Rattle.sqlite.specs.Held.{Held, state}
use Rattle.sqlite.specs.State.{State, HasCleanDisk, KeepsCommit, IsUnchanged, Executes, ExecutesInside, Survives}
use Rattle.hub_store.specs.Tables.{hub_schema}
use Rattle.sqlite_trees.specs.declared.store.Store as store

-- the store has the schema of the hub's newest version, as long as it is open
abbrev pub Knows : State → Type 0
Knows c = IsTrue c.is_open → c.now.schema ≡ hub_schema

-- The last commit stays as long as the store is open, and nothing is underway.
pub record KeepsCommitted (old new : State) : Type 0 where
  pub was_open : IsTrue new.is_open → IsTrue old.is_open
  pub now : IsTrue new.is_open → new.now ≡ old.committed
  pub committed : IsTrue new.is_open → new.committed ≡ old.committed

-- the text was prepared, which changed nothing, and was run
pub record HasRun {S : Type 0} (g : store.Ghosts S) (text : List ℕ) (params : Row) (old new : Held S) : Type 0 where
  pub mid : Held S
  pub same : IsUnchanged (state g old) (state g mid)
  pub count : ℕ
  pub executes : Executes text params (state g mid) (state g new) (Ok count)

-- the text failed, when it was prepared or when it was run
pub record HasFailed {S : Type 0} (g : store.Ghosts S) (text : List ℕ) (params : Row) (old new : Held S) (e : Error) : Type 0 where
  pub mid : Held S
  pub survives : Survives (state g old) (state g mid) (λ _. ⊥)
  pub now : (state g mid).now ≡ (state g old).now
  pub is_open : IsTrue (state g old).is_open → IsTrue (state g mid).is_open
  pub executes : ExecutesInside 0 text params (state g mid) (state g new) (Err e)

-- A statement in a transaction commits nothing; after Ok the transaction goes on.
pub record Goes {T : Type 0} (old new : State) (result : Result T Error) : Type 0 where
  pub kept : HasCleanDisk new → IsTrue old.in_transaction → KeepsCommit old new
  pub inside : HasCleanDisk new → IsTrue old.in_transaction →
      OnOk result (IsTrue new.in_transaction × (IsTrue old.is_open → IsTrue new.is_open))
  pub survives : Survives old new (λ _. ⊥)
