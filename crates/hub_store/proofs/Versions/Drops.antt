-- The statements that drop tables.
use Rattle.std.proofs.Common.{◌≡◌, ℕ, List, [], Bool, false, if◌then◌else◌, None, Some, Option, Ok, slice_get, sym, ap, subst, ◌∙◌}
use Rattle.sqlite_schema.specs.declared.{command.Command.TheVariants.DropTable, schema.{Keys.TheVariants.Enforced, Schema.Schema, Table.Table}}
use Rattle.{sqlite_catalog.specs.Change.{without_table, KeepsRows}, sqlite.{proofs.Callers.{IsPlain, command_of, statement_of, runs_as}, specs.Does.Tally}}
use Rattle.sqlite.specs.{Does.{Does, AtPlace, Drops, UncountsIn, is_acted_on}, Effect.{Database, IsDatabase}, Listing.understood, Rows.{Task, sequence}}
use Rattle.{sqlite.specs.State.{State, mode_of, Executes}, hub_store.proofs.Rows.Statements.{same_ok, went, other_one}}

-- the table and its indexes are gone, and the others have their rows
pub record Dropped (schema : Schema) (tree : ℕ) (old new : Database) : Type 0 where
  pub schema_is : new.schema ≡ without_table schema tree
  pub whole : IsDatabase new
  pub others : KeepsRows (without_table schema tree).tables old.trees new.trees

pub dropped_by : (old new : State) (sql : List ℕ) (schema : Schema) (at : ℕ) (table : Table) → old.now.schema ≡ schema → command_of (understood schema sql) ≡ DropTable at → slice_get schema.tables at ≡ Some table
    → is_acted_on schema Enforced table ≡ false → table.is_counted ≡ false → IsPlain (understood schema sql) → (count : ℕ) → Executes sql [] old new (Ok count) → Dropped schema table.tree old.now new.now
dropped_by old new sql schema at table has is listed quiet uncounted plain count h =
    let w = runs_as sql [] old new schema has (DropTable at) is plain count h in
    let task : Task = record { limit = old.step_limit; keys = Enforced; schema = schema; table = table; params = [] } in
    let does = subst (λ s. Does old.step_limit (mode_of old) [] (record old.now { schema = s }) (statement_of sql (understood schema sql)) None (DropTable at) (Ok (w.tally, new.now))) has w.changed in
    let drops : Drops task (mode_of old) old.now.trees (Ok (w.tally, new.now)) =
    subst (λ (o : Option Table). AtPlace (λ (t : Table). Drops (record task { table = t }) (mode_of old) old.now.trees) o (Ok (w.tally, new.now))) listed does in
    let emptied = went drops in
    let counted = went emptied.2 in
    let tested = went counted.2 in
    let left = went tested.2 in
    let as_before : emptied.0 ≡ old.now.trees = same_ok (other_one _ _ _ quiet emptied.1) in
    let as_emptied : counted.0 ≡ emptied.0 = same_ok (subst (λ (b : Bool). UncountsIn task emptied.0 (if b then sequence schema else None) (Ok counted.0)) uncounted counted.1) in
    let now : new.now ≡ left.0 = ap (λ (p : Tally × Database). p.1) (same_ok left.2) in
    record {
      schema_is = ap (λ (d : Database). d.schema) now ∙ left.1.0;
      whole = w.sound;
      others = subst (λ t. KeepsRows (without_table schema table.tree).tables t new.now.trees) (as_emptied ∙ as_before) (subst (λ (d : Database). KeepsRows (without_table schema table.tree).tables counted.0 d.trees) (sym now) left.1.1);
    }
