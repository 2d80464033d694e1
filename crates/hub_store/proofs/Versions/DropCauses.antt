-- A DROP of a table to which no other refers fails only for a reason.
use Rattle.std.proofs.Common.{◌≡◌, ◌≢◌, ℕ, List, [], ◌∷◌, Bool, false, not, ◌==◌, if◌then◌else◌, None, Some, Option, Result, Err, OnOk, IfErr, IsTrue}
use Rattle.{std.{proofs.Common.{slice_get, inl, inr, subst, ◌∙◌, true}, specs.List.AllByRecursion}, sqlite_trees.proofs.ListLemmas.all-filter}
use Rattle.{sqlite_trees.specs.Tree.Trees, sqlite_schema.specs.declared.{command.Command.TheVariants.DropTable, schema.Among.TheVariants.All}}
use Rattle.{sqlite_schema.specs.declared.schema.{Keys.TheVariants.Enforced, Schema.Schema, Table.Table}, sqlite_catalog.specs.Change.{without_table, KeepsRows}}
use Rattle.sqlite.{proofs.Callers.{command_of, statement_of}, specs.Does.{Does, AtPlace, Drops, Empties, Uncounts, UncountsIn, Tested, HoldWithout, Leaves}}
use Rattle.sqlite.specs.{Does.is_acted_on, Effect.Database, Held.{Held, state}, Listing.understood, Rows.{Task, sequence}, State.{State, HasCleanDisk}}
use Rattle.{sqlite.specs.{State.{ExecutesInside, mode_of}, declared.error.Error.{Error, TheVariants.SqliteFailure}}, hub_store.proofs.Edits.Steps.created_by}
use Rattle.hub_store.proofs.{Rows.Statements.other_one, Versions.{Beside.{are_unreferred, none_refer, unreferred_by}, Causes.{IsWhole, plain_of, fails_as}}}
use Rattle.hub_store.{proofs.Versions.{Causes.{stops, gave}, Drops.{Dropped, dropped_by}}, specs.{Failing.HasReason, Keeps.{Goes, HasRun, HasFailed}}}
use Rattle.hub_store.specs.inner.Makes.{HasEmpty, Creates}
use Rattle.sqlite_trees.specs.declared.store.Store as store
use Rattle.sqlite.specs.declared.error.ErrorCode.TheVariants as code

-- The text drops the table at this place, to which nothing refers. For a schema and a text that are written out each
-- field is `refl`.
pub record IsDropping (schema : Schema) (sql : List ℕ) (at : ℕ) (table : Table) : Type 0 where
  pub command : command_of (understood schema sql) ≡ DropTable at
  pub listed : slice_get schema.tables at ≡ Some table
  pub quiet : is_acted_on schema Enforced table ≡ false
  pub uncounted : table.is_counted ≡ false
  pub whole : IsWhole sql [] (understood schema sql)
  pub unreferred : are_unreferred schema.tables ≡ true

never_left : (schema : Schema) (db : Trees) (stop : Option Error) → ¬ Leaves schema db (λ _. ⊥) (Err stop)
never_left schema db None h = h
never_left schema db (Some e) h = h

module _ (schema : Schema) (sql : List ℕ) (at : ℕ) (table : Table) (it : IsDropping schema sql at table) where
  still : AllByRecursion (λ (t : Table). t.references ≡ []) (without_table schema table.tree).tables
  still = all-filter (λ (t : Table). t.references ≡ []) (λ (t : Table). not (t.tree == table.tree)) schema.tables (unreferred_by schema.tables it.unreferred)

  pub drops_freely : (old : State) (text : List ℕ) → old.now.schema ≡ schema → (stop : Option Error) → ¬ Does old.step_limit (mode_of old) [] old.now text None (DropTable at) (Err stop)
  drops_freely old text has stop h =
      let task : Task = record { limit = old.step_limit; keys = Enforced; schema = schema; table = table; params = [] } in
      let does = subst (λ s. Does old.step_limit (mode_of old) [] (record old.now { schema = s }) text None (DropTable at) (Err stop)) has h in
      let drops : Drops task (mode_of old) old.now.trees (Err stop) = subst (λ (o : Option Table). AtPlace (λ (t : Table). Drops (record task { table = t }) (mode_of old) old.now.trees) o (Err stop)) it.listed does in
      elim (stops (Empties task old.now.trees) _ stop drops) [
        | inl empties ↦ gave (other_one _ _ _ it.quiet empties)
        | inr emptied ↦ elim (stops (Uncounts task emptied.0) _ stop emptied.2) [
          | inl counted ↦ gave (subst (λ (b : Bool). UncountsIn task emptied.0 (if b then sequence schema else None) (Err stop)) it.uncounted counted)
          | inr counted ↦ elim (stops (Tested (mode_of old) (HoldWithout task counted.0)) _ stop counted.2) [
            | inl broken ↦ absurd (broken.0 (none_refer All schema.tables schema.tables counted.0 (unreferred_by schema.tables it.unreferred), none_refer All (without_table schema table.tree).tables (without_table schema table.tree).tables counted.0 still))
            | inr tested ↦ elim (stops (Leaves (without_table schema table.tree) counted.0 (λ _. ⊥)) _ stop tested.2) [
              | inl left ↦ never_left (without_table schema table.tree) counted.0 stop left
              | inr after ↦ gave after.2
            ]
          ]
        ]
      ]

  pub drop_fails : (old new : State) → old.now.schema ≡ schema → (e : Error) → e ≢ SqliteFailure code.OutOfMemory → ExecutesInside 0 sql [] old new (Err e) → HasReason old new
  drop_fails old new has e other h =
      elim (fails_as sql [] old schema has it.whole new (DropTable at) it.command tt e other h) [
        | inl reason ↦ reason
        | inr refused ↦ absurd (drops_freely old (statement_of sql (understood schema sql)) has refused.0 refused.1)
      ]

  still_empty : (old new : Database) → Dropped schema table.tree old new → HasEmpty schema old → HasEmpty (without_table schema table.tree) new
  still_empty old new dropped has = record {
    known = dropped.schema_is;
    whole = λ some. dropped.whole;
    empty = both (without_table schema table.tree).tables dropped.others (all-filter (λ (t : Table). old.trees t.tree ≡ []) (λ (t : Table). not (t.tree == table.tree)) schema.tables has.empty);
  }
    where
      both : (ts : List Table) → KeepsRows ts old.trees new.trees → AllByRecursion (λ (t : Table). old.trees t.tree ≡ []) ts → AllByRecursion (λ (t : Table). new.trees t.tree ≡ []) ts
      both [] keeps empty = tt
      both (t ∷ ts) keeps empty = (keeps.0 ∙ empty.0, both ts keeps.1 empty.1)

  -- the text that was run drops the table, or there is a reason
  pub drops_empty : {S : Type 0} (g : store.Ghosts S) (old new : Held S) {T : Type 0} (result : Result T Error) → Goes (state g old) (state g new) result
      → (HasCleanDisk (state g new) → IsTrue (state g old).in_transaction → OnOk result (HasRun g sql [] old new)) → (HasCleanDisk (state g new) → IsTrue (state g old).in_transaction → IfErr result (HasFailed g sql [] old new))
      → Creates (state g old) (state g new) (HasEmpty schema) (HasEmpty (without_table schema table.tree)) result
  drops_empty g old new result goes ran failed =
      created_by g sql [] old new (HasEmpty schema) (HasEmpty (without_table schema table.tree)) result goes ran failed
      (λ mid count h has. still_empty mid.now (state g new).now (dropped_by mid (state g new) sql schema at table has.known it.command it.listed it.quiet it.uncounted (plain_of sql [] _ it.whole) count h) has)
      (λ mid e h has other. drop_fails mid (state g new) has.known e other h)
