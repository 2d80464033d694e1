-- Each version of the tables: its tables with their trees, and what each holds of a state.
use Rattle.std.specs.Prelude.{ℕ, pos, ◌==◌, not, if◌then◌else◌, List, [], ◌∷◌, ◌++◌, drop, map, filter}
use Rattle.std.specs.Str.{bytes_eq}
use Rattle.sqlite_value.specs.declared.value.Value.TheVariants.{Int}
use Rattle.sqlite_value.specs.Order.{Row}
use Rattle.sqlite_schema.specs.declared.schema.Table.{Table}
use Rattle.sqlite_catalog.specs.Change.{next_tree}
use Rattle.hub_state.specs.State.{State, empty}
use Rattle.hub_store.specs.Shapes.{hub_table, org_table, person_table, community_table, grp_table, pair_table, gate_table, recipient_table, permission_table}
use Rattle.hub_store.specs.Shapes.{incident_table, item_table, incident_table_2, permission_table_3, incident_table_4}
use Rattle.hub_store.specs.Pairs.{rows_of_pairs}
use Rattle.hub_store.specs.Rows.{org_row, account_row, community_row, group_row, pair_sets, gate_row, recipient_row, endless_row, permission_row, incident_row}
use Rattle.hub_store.specs.Rows.{named_row_2, named_row, without_end, without_community}
use Rattle.hub_store.specs.Items.{items_of, item_row}
use Rattle.hub_store.specs.Parts.{Part, schema_of}

-- the part of a set whose elements have their numbers as rowids
abbrev pub part_by_number : {X : Type 0} → ℕ → Table → (X → Row) → List X → Part
part_by_number tree table row xs = record { table = record table { tree = tree }; seen = λ r. r; rows = map row xs }

-- the part of a set whose rowids mean nothing
abbrev pub part_without_rowids : ℕ → Table → List Row → Part
part_without_rowids tree table rows = record { table = record table { tree = tree }; seen = drop 1; rows = rows }

-- the table of the version, which is the first part
abbrev pub hub_part : List Row → Part
hub_part = part_without_rowids 0 hub_table

-- these parts with a version before them
abbrev pub under : ℕ → List Part → List Part
under version ps = hub_part ((Int (pos version) ∷ []) ∷ []) ∷ ps

-- The tables that all versions have. The trees between theirs are those of their indexes.
abbrev pub in_every_version : ℕ → State → List Part
in_every_version version s = under version (
    part_by_number 1 org_table org_row s.directory.orgs
    ∷ part_by_number 3 person_table account_row s.directory.accounts
    ∷ part_by_number 5 community_table community_row s.directory.communities
    ∷ part_by_number 7 grp_table group_row s.directory.groups
    ∷ part_without_rowids 9 pair_table (rows_of_pairs (pair_sets s.directory))
    ∷ part_without_rowids 12 gate_table (map gate_row s.gates)
    ∷ part_without_rowids 14 recipient_table (map recipient_row s.recipients)
    ∷ [])

-- the permissions without their ends
abbrev pub permission_part : State → Part
permission_part s = part_without_rowids 16 permission_table (map endless_row s.permissions)

-- the tables that versions 1 and 2 have
abbrev pub in_versions_1_and_2 : ℕ → State → List Part
in_versions_1_and_2 version s = in_every_version version s ++ permission_part s ∷ []

-- the incidents with their documents as texts, as version 1 keeps them
abbrev pub incident_part : State → Part
incident_part s = part_by_number 18 incident_table incident_row s.incidents

-- the parts of version 1
abbrev pub parts_1 : State → List Part
parts_1 s = in_versions_1_and_2 1 s ++ incident_part s ∷ []

-- ---- version 2: the lines of the documents have a table of their own

-- the lines of the documents
abbrev pub item_part : List Row → Part
item_part = part_without_rowids 20 item_table

-- the incidents without their documents
abbrev pub incident_part_2 : List Row → Part
incident_part_2 rows = record { table = record incident_table_2 { tree = 22 }; seen = λ r. r; rows = rows }

-- These lines and incidents, with all else of a state, under a version. During a migration that may still be another
-- version.
abbrev pub tables_2 : ℕ → List Row → List Row → State → List Part
tables_2 version items incidents s = in_versions_1_and_2 version s ++ item_part items ∷ incident_part_2 incidents ∷ []

-- the parts of version 2
abbrev pub parts_2 : State → List Part
parts_2 s = tables_2 2 (map item_row (items_of s)) (map named_row_2 s.incidents) s

-- ---- between version 1 and version 2

-- these lines beside all tables of version 1
abbrev pub with_items : List Row → State → List Part
with_items items s = in_versions_1_and_2 1 s ++ incident_part s ∷ item_part items ∷ []

-- these lines beside the tables of version 1 without that of the incidents
abbrev pub without_incidents : List Row → State → List Part
without_incidents items s = in_versions_1_and_2 1 s ++ item_part items ∷ []

-- ---- from version 2 on a step to the next version makes one table anew, after all others

-- The table as its text makes it, how a row of it is seen, what it holds of a state, and how a row of the old table is
-- kept.
pub record Step : Type 0 where
  pub table : Table
  pub seen : Row → Row
  pub rows : State → List Row
  pub row : Row → Row

-- the parts without the table of this name
abbrev pub apart_from : List ℕ → List Part → List Part
apart_from name ps = filter (λ (p : Part). not (bytes_eq p.table.name name)) ps

-- the table of a step after these parts, with these rows
abbrev pub behind : Step → List Row → List Part → List Part
behind step rows ps = ps ++ record { table = record step.table { tree = next_tree (schema_of ps) }; seen = step.seen; rows = rows } ∷ []

-- the parts with the table of a step after them, in place of the old table of that name
abbrev pub made_anew : Step → List Row → List Part → List Part
made_anew step rows ps = behind step rows (apart_from step.table.name ps)

-- the parts of a version, made of those of the version before
abbrev pub stepped : Step → ℕ → State → List Part → List Part
stepped step version s ps = made_anew step (step.rows s) (under version (drop 1 ps))

-- ---- version 3: a permission may have an end

-- the step to version 3: the permissions get a column for their end
abbrev pub permission_step : Step
permission_step = record { table = permission_table_3; seen = drop 1; rows = λ s. map permission_row s.permissions; row = without_end }

-- the parts of version 3
abbrev pub parts_3 : State → List Part
parts_3 s = stepped permission_step 3 s (parts_2 s)

-- ---- version 4: an incident may name a community

-- the step to version 4: the incidents get a column for the community that they name
abbrev pub incident_step : Step
incident_step = record { table = incident_table_4; seen = λ r. r; rows = λ s. map named_row s.incidents; row = without_community }

-- the parts of version 4
abbrev pub parts_4 : State → List Part
parts_4 s = stepped incident_step 4 s (parts_3 s)

-- the permissions of version 4, with the tree that they have there
abbrev pub permission_part_3 : List Row → Part
permission_part_3 = part_without_rowids 24 permission_table_3

-- the incidents of version 4, with the tree that they have there
abbrev pub incident_part_4 : List Row → Part
incident_part_4 rows = record { table = record incident_table_4 { tree = 26 }; seen = λ r. r; rows = rows }

-- the parts of the newest version that come after the lines, with these incidents
abbrev pub behind_items : State → List Row → List Part
behind_items s incidents =
    permission_part_3 (map permission_row s.permissions) ∷ incident_part_4 incidents ∷ []

-- the parts of the newest version with these lines and incidents, and all else of a state
abbrev pub newest_tables : List Row → List Row → State → List Part
newest_tables items incidents s = in_every_version 4 s ++ item_part items ∷ behind_items s incidents

-- ---- the schema of a version, what it means and where its statements find a table follow from its parts

-- the newest version of the tables
abbrev pub newest : ℕ
newest = 4

-- the parts of a version; any other number counts as the newest
abbrev pub parts_by : ℕ → State → List Part
parts_by v s = if v == 1 then parts_1 s else if v == 2 then parts_2 s else if v == 3 then parts_3 s else parts_4 s

-- the tables of a version without any row, not even the version
abbrev pub bare_by : ℕ → List Part
bare_by v = hub_part [] ∷ drop 1 (parts_by v empty)
