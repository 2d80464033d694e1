-- Each table as its statement makes it, and the schema after each statement.
use Rattle.std.specs.Prelude.{ℕ, Bool, true, false, List, [], ◌∷◌, Option, None, Some, map, codes}
use Rattle.sqlite_value.specs.declared.keys.Collation.TheVariants.{Binary}
use Rattle.sqlite_value.specs.Keys.{plain}
use Rattle.sqlite_value.specs.declared.value.Value.TheVariants.{Null}
use Rattle.sqlite_schema.specs.declared.schema.Column.{Column}
use Rattle.sqlite_schema.specs.declared.schema.Table.{Table}
use Rattle.sqlite_schema.specs.declared.schema.Schema.{Schema}
use Rattle.sqlite_schema.specs.declared.schema.Kind.{Kind}
use Rattle.sqlite_schema.specs.declared.schema.Kind.TheVariants.{Integer, Text, Blob}
use Rattle.sqlite_catalog.specs.Change.{created}

-- ---- columns of STRICT tables

-- a column of a type, perhaps NOT NULL, with no default and the collation BINARY
abbrev pub column_of : List ℕ → Kind → Bool → Column
column_of name kind not_null = record { name = name; kind = kind; is_strict = true; not_null = not_null; default = Null; collation = Binary }

-- a column INTEGER NOT NULL
abbrev pub integer : List ℕ → Column
integer name = column_of name Integer true

-- a column TEXT NOT NULL
abbrev pub text : List ℕ → Column
text name = column_of name Text true

-- a column BLOB NOT NULL
abbrev pub blob : List ℕ → Column
blob name = column_of name Blob true

-- a column INTEGER, which may be NULL
abbrev pub integer_or_null : List ℕ → Column
integer_or_null name = column_of name Integer false

-- ---- tables: the number of a row, if it has one, is its rowid; the others have a hidden rowid

-- a table of these columns, with its key, its primary key and its UNIQUE constraints, and nothing else
abbrev pub table_of : List ℕ → List Column → Option ℕ → List ℕ → List (List ℕ) → Table
table_of name columns key primary uniques = record {
  name = name;
  tree = 0;
  columns = columns;
  key = key;
  primary = primary;
  uniques = uniques;
  orders = map (λ (unique : List ℕ). plain) uniques;
  checks = [];
  references = [];
  computed = [];
  stamps = record { places = []; terms = []; formats = [] };
  is_counted = false;
}

-- a table whose first column `number` is the INTEGER PRIMARY KEY
abbrev pub numbered : List ℕ → List Column → List (List ℕ) → Table
numbered name columns uniques = table_of name (integer_or_null (codes "number") ∷ columns) (Some 0) (0 ∷ []) uniques

-- a table without a primary key
abbrev pub unnumbered : List ℕ → List Column → List (List ℕ) → Table
unnumbered name columns uniques = table_of name columns None [] uniques

-- the table `hub`: the version
abbrev pub hub_table : Table
hub_table = unnumbered (codes "hub") (integer (codes "version") ∷ []) ([])

-- the table `org`: organisations, unique by name
abbrev pub org_table : Table
org_table = numbered (codes "org") (text (codes "name") ∷ []) ((2 ∷ []) ∷ [])

-- the table `person`: persons, unique by key
abbrev pub person_table : Table
person_table =
    numbered (codes "person") (integer (codes "org") ∷ text (codes "name") ∷ integer (codes "role") ∷ blob (codes "key") ∷ integer (codes "active") ∷ integer (codes "nominated") ∷ []) ((5 ∷ []) ∷ [])

-- the table `community`: communities, unique by name
abbrev pub community_table : Table
community_table = numbered (codes "community") (text (codes "name") ∷ []) ((2 ∷ []) ∷ [])

-- the table `grp`: groups, unique by owner and name
abbrev pub grp_table : Table
grp_table =
    numbered (codes "grp") (integer (codes "owner") ∷ text (codes "name") ∷ text (codes "releasability") ∷ integer (codes "active") ∷ []) ((2 ∷ 3 ∷ []) ∷ [])

-- the table `pair`: the pairs of five sets, unique by `kind, a, b` and by `kind, b, a`
abbrev pub pair_table : Table
pair_table =
    unnumbered (codes "pair") (text (codes "kind") ∷ integer (codes "a") ∷ integer (codes "b") ∷ integer_or_null (codes "value") ∷ []) ((1 ∷ 2 ∷ 3 ∷ []) ∷ (1 ∷ 3 ∷ 2 ∷ []) ∷ [])

-- the table `gate`: gates, unique by incident and path
abbrev pub gate_table : Table
gate_table =
    unnumbered (codes "gate") (integer (codes "incident") ∷ text (codes "path") ∷ integer (codes "level") ∷ integer_or_null (codes "grp") ∷ []) ((1 ∷ 2 ∷ []) ∷ [])

-- the table `recipient`: recipients, unique by incident, kind and target
abbrev pub recipient_table : Table
recipient_table =
    unnumbered (codes "recipient") (integer (codes "incident") ∷ integer (codes "kind") ∷ integer (codes "target") ∷ []) ((1 ∷ 2 ∷ 3 ∷ []) ∷ [])

-- the table `permission` of versions 1 and 2: permissions without an end, unique by incident, path, kind and target
abbrev pub permission_table : Table
permission_table =
    unnumbered (codes "permission") (integer (codes "incident") ∷ text (codes "path") ∷ integer (codes "kind") ∷ integer (codes "target") ∷ []) ((1 ∷ 2 ∷ 3 ∷ 4 ∷ []) ∷ [])

-- the table `incident` of version 1, with the documents as texts, unique by source and ident
abbrev pub incident_table : Table
incident_table =
    numbered (codes "incident") (integer (codes "source") ∷ text (codes "ident") ∷ integer (codes "revision") ∷ text (codes "text") ∷ []) ((2 ∷ 3 ∷ []) ∷ [])

-- ---- tables that are new or changed in version 2

-- the table `item`: the lines of documents, unique by incident and place
abbrev pub item_table : Table
item_table =
    unnumbered (codes "item") (integer (codes "incident") ∷ integer (codes "place") ∷ integer (codes "depth") ∷ text (codes "name") ∷ integer (codes "in_array") ∷ integer (codes "kind") ∷ text (codes "text") ∷ []) ((1 ∷ 2 ∷ []) ∷ [])

-- the table `incident` of versions 2 and 3, without the documents
abbrev pub incident_table_2 : Table
incident_table_2 =
    numbered (codes "incident") (integer (codes "source") ∷ text (codes "ident") ∷ integer (codes "revision") ∷ []) ((2 ∷ 3 ∷ []) ∷ [])

-- ---- the table that version 3 changes

-- the table `permission` from version 3 on, with the end
abbrev pub permission_table_3 : Table
permission_table_3 =
    unnumbered (codes "permission") (integer (codes "incident") ∷ text (codes "path") ∷ integer (codes "kind") ∷ integer (codes "target") ∷ integer_or_null (codes "until") ∷ []) ((1 ∷ 2 ∷ 3 ∷ 4 ∷ []) ∷ [])

-- ---- the table that version 4 changes

-- the table `incident` of version 4, with the community that the incident names
abbrev pub incident_table_4 : Table
incident_table_4 =
    numbered (codes "incident") (integer (codes "source") ∷ text (codes "ident") ∷ integer (codes "revision") ∷ integer_or_null (codes "community") ∷ []) ((2 ∷ 3 ∷ []) ∷ [])

-- ---- the schema after each statement of version 1

-- a store without a table, an index or a view
abbrev pub no_schema : Schema
no_schema = record { tables = []; indexes = []; views = [] }

-- the schema with the table `hub`
abbrev pub up_to_hub : Schema
up_to_hub = created no_schema hub_table

-- the schema with the tables up to `org`
abbrev pub up_to_org : Schema
up_to_org = created up_to_hub org_table

-- the schema with the tables up to `person`
abbrev pub up_to_person : Schema
up_to_person = created up_to_org person_table

-- the schema with the tables up to `community`
abbrev pub up_to_community : Schema
up_to_community = created up_to_person community_table

-- the schema with the tables up to `grp`
abbrev pub up_to_grp : Schema
up_to_grp = created up_to_community grp_table

-- the schema with the tables up to `pair`
abbrev pub up_to_pair : Schema
up_to_pair = created up_to_grp pair_table

-- the schema with the tables up to `gate`
abbrev pub up_to_gate : Schema
up_to_gate = created up_to_pair gate_table

-- the schema with the tables up to `recipient`
abbrev pub up_to_recipient : Schema
up_to_recipient = created up_to_gate recipient_table

-- the schema with the tables up to `permission`
abbrev pub up_to_permission : Schema
up_to_permission = created up_to_recipient permission_table
