-- The version of the tables.
use Rattle.std.specs.Prelude.{ℕ, pos, nat_lt, ◌==◌, ◌^◌, if◌then◌else◌, List, [], ◌∷◌, map, count_by, slice_get, Option, Some, None, option_and_then, codes}
use Rattle.sqlite_value.specs.declared.value.Value.{Value}
use Rattle.sqlite_value.specs.declared.value.Value.TheVariants.{Int}
use Rattle.sqlite_value.specs.Order.{Row, column}
use Rattle.sqlite_trees.specs.Tree.{Trees}
use Rattle.sqlite_schema.specs.declared.schema.Table.{Table}
use Rattle.sqlite_schema.specs.declared.schema.Schema.{Schema}
use Rattle.sqlite_schema.specs.Names.{table_named, column_named, place_of}
use Rattle.sqlite.specs.Effect.{Database}

-- how many tables the schema has at this tree
abbrev pub tables_at : Schema → ℕ → ℕ
tables_at schema tree = count_by (λ (t : Table). t.tree == tree) schema.tables

-- the table, if no other has its tree
abbrev pub if_alone : Schema → Table → Option Table
if_alone schema table = if tables_at schema table.tree == 1 then Some table else None

-- the table `hub`, if there is one and no other table has its tree
abbrev pub hub_of : Schema → Option Table
hub_of schema =
    option_and_then (if_alone schema) (option_and_then (slice_get schema.tables) (table_named schema (codes "hub")))

-- its column `version`, if there is one
abbrev pub version_column : Schema → Option ℕ
version_column schema = option_and_then (λ (t : Table). column_named t (codes "version")) (hub_of schema)

-- the values of a column in the rows of a table; none if there is no such column
abbrev pub values_at : Trees → Table → Option ℕ → List Value
values_at db table None = []
values_at db table (Some at) = map (λ (r : Row). column r (place_of table at)) (db table.tree)

-- the values of the column `version` of the table `hub`; none if there is no such table or column
abbrev pub versions_by : Trees → Option Table → List Value
versions_by db None = []
versions_by db (Some table) = values_at db table (column_named table (codes "version"))

-- the u32, if the list has one value and that is one
abbrev pub only_u32 : List Value → Option ℕ
only_u32 (Int (pos n) ∷ []) = if nat_lt n (2 ^ 32) then Some n else None
only_u32 _ = None

-- The version of a store: the u32 in the column `version` of the one row of the table `hub`. None if there is no such
-- table, column or number, if there is not exactly one row, or if another table has the tree of `hub`.
abbrev pub version_of : Database → Option ℕ
version_of db = only_u32 (versions_by db.trees (hub_of db.schema))

-- the text that asks for the version; two rows show that there is more than one
abbrev pub version_text : List ℕ
version_text = codes "SELECT version FROM hub LIMIT 2"
