-- A version of the tables, or a moment within a migration, as a list of tables with what each holds.
use Rattle.std.specs.Prelude.{◌≡◌, ◌==◌, ◌&&◌, ◌+◌, ℕ, Bool, not, List, length, map, flat_map, []}
use Rattle.std.specs.List.{AllByRecursion, list_all}
use Rattle.sqlite_value.specs.Order.{Row}
use Rattle.sqlite_schema.specs.declared.schema.Index.{Index}
use Rattle.sqlite_schema.specs.declared.schema.Table.{Table}
use Rattle.sqlite_schema.specs.declared.schema.Schema.{Schema}
use Rattle.sqlite_catalog.specs.Change.{automatics}
use Rattle.sqlite.specs.Effect.{Database, IsDatabase}
use Rattle.hub_store.specs.Holdings.{Holding, IsHeld}

-- a table with its tree, how a row of it is seen, and the rows as they are seen
pub record Part : Type 0 where
  pub table : Table
  pub seen : Row → Row
  pub rows : List Row

-- what the table of a part holds
abbrev pub held : Part → Holding
held p = record { tree = p.table.tree; seen = p.seen; rows = p.rows }

-- the indexes of a table, whose trees follow its own
abbrev pub indexes_of : Table → List Index
indexes_of table = automatics table 0 (table.tree + 1) table.uniques

-- the schema of these parts
abbrev pub schema_of : List Part → Schema
schema_of ps = record {
  tables = map (λ (p : Part). p.table) ps;
  indexes = flat_map (λ (p : Part). indexes_of p.table) ps;
  views = [];
}

-- the database has these tables and obeys them, and each holds its rows
pub record HoldsParts (ps : List Part) (db : Database) : Type 0 where
  pub known : db.schema ≡ schema_of ps
  pub whole : IsDatabase db
  pub means : AllByRecursion (IsHeld db.trees) (map held ps)

-- no table has this tree, and none refers to another
abbrev pub are_beside : ℕ → List Part → Bool
are_beside tree ps = list_all (λ (p : Part). not (p.table.tree == tree) && (length p.table.references == 0)) ps
