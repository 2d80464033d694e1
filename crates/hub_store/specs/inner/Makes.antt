-- What a statement in a transaction makes of the tables.
use Rattle.std.specs.Prelude.{◌≡◌, ◌≢◌, [], Result, OnOk, IfErr, IsTrue}
use Rattle.std.specs.List.{AllByRecursion}
use Rattle.sqlite_schema.specs.declared.schema.Table.{Table}
use Rattle.sqlite_schema.specs.declared.schema.Schema.{Schema}
use Rattle.sqlite.specs.declared.error.Error.{Error}
use Rattle.sqlite.specs.declared.error.Error.TheVariants.{SqliteFailure}
use Rattle.sqlite.specs.Effect.{Database, IsDatabase}
use Rattle.sqlite.specs.State.{State, HasCleanDisk}
use Rattle.hub_store.specs.Failing.{HasReason}
use Rattle.hub_store.specs.Keeps.{Goes}
use Rattle.sqlite.specs.declared.error.ErrorCode.TheVariants as code

-- the schema is this one and its tables have no row; the database obeys them, if there are any
pub record HasEmpty (schema : Schema) (db : Database) : Type 0 where
  pub known : db.schema ≡ schema
  pub whole : schema.tables ≢ [] → IsDatabase db
  pub empty : AllByRecursion (λ (t : Table). db.trees t.tree ≡ []) schema.tables

-- Nothing is committed. If `Before` held before, `After` holds after Ok.
pub record Makes {T : Type 0} (old new : State) (Before After : Database → Type 0) (result : Result T Error) : Type 0 where
  pub goes : Goes old new result
  pub made : HasCleanDisk new → IsTrue old.in_transaction → Before old.now → OnOk result (After new.now)

-- If this held before, it fails only for a reason or for want of memory.
pub record FailsOnly {T : Type 0} (old new : State) (Before : Database → Type 0) (result : Result T Error) : Type 0 where
  pub cause : HasCleanDisk new → IsTrue old.in_transaction → Before old.now →
      IfErr result (λ e. e ≢ SqliteFailure code.OutOfMemory → HasReason old new)

-- The same as Makes, and if `Before` held, it fails only for a reason or for want of memory.
pub record Creates {T : Type 0} (old new : State) (Before After : Database → Type 0) (result : Result T Error) : Type 0 where
  pub makes : Makes old new Before After result
  pub cause : HasCleanDisk new → IsTrue old.in_transaction → Before old.now →
      IfErr result (λ e. e ≢ SqliteFailure code.OutOfMemory → HasReason old new)
