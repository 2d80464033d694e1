-- The forms of the queries: one table, tests of columns, no join.
use Rattle.{std.proofs.Common.{◌≡◌, ◌+◌, ℕ, zero, suc, pos, negsuc, List, [], ◌∷◌, map, None, false}, sqlite_value.specs.Keys.ascending}
use Rattle.{sqlite_value.specs.declared.{keys.{Collation.TheVariants.Binary, Key.Key}, value.Value.TheVariants.{Null, Int}}, sqlite_sql.specs.Query.Query}
use Rattle.sqlite_sql.specs.{Query.{inner, end}, Term.{Term, lit, col, op2}, declared.ops.{BinaryOp.TheVariants.Compare, CompareOp.TheVariants.{Eq, Gt}}}
use Rattle.sqlite_schema.specs.declared.command.{Command.{Command, TheVariants.{Insert, Select, Delete, Update}}, Source.TheVariants.Values}
use Rattle.{sqlite_schema.specs.declared.program.Program.Program, sqlite.{proofs.Callers.{IsPlain, command_of}, specs.Listing.{understood, reads_listing}}}
use Rattle.hub_store.{proofs.Rows.Places.table_at, specs.Tables.hub_schema}

-- a column is a parameter
abbrev pub is_param : ℕ → ℕ → Term
is_param place param = op2 (Compare Eq Binary) (col 1 place) (col 0 param)

-- a column is above a parameter
abbrev pub is_above : ℕ → ℕ → Term
is_above place param = op2 (Compare Gt Binary) (col 1 place) (col 0 param)

-- the rows of one table that pass the tests, with these columns
abbrev pub one_table : ℕ → List Term → List Term → Query
one_table tree filter project = record {
  from = inner tree end;
  filter = filter;
  group = None;
  project = project;
  distinct = false;
  collations = [];
  order = [];
  limit = lit (Int (negsuc 0));
  offset = lit (Int (pos 0));
}

abbrev pub program : Query → Program
program q = record { lets = []; body = q }

abbrev pub by_column : ℕ → Term × Key
by_column place = (col 1 place, ascending Binary)

-- the same in the order of some columns
abbrev pub ordered_by : List (Term × Key) → Query → Query
ordered_by order q = record q { order = order }

-- the columns at these places are the parameters, the first of them at an index
abbrev pub are_params : ℕ → List ℕ → List Term
are_params at [] = []
are_params at (place ∷ places) = is_param place at ∷ are_params (suc at) places

-- the rows of a tree whose columns at some places are the parameters, with the columns at other places
abbrev pub finds : ℕ → List ℕ → List ℕ → Query
finds tree tests columns = one_table tree (are_params 0 tests) (map (col 1) columns)

-- the same in the order of the columns at some places
abbrev pub lists : List ℕ → ℕ → List ℕ → List ℕ → Query
lists order tree tests columns = ordered_by (map by_column order) (finds tree tests columns)

-- ---- the forms of the statements

-- this many parameters, the first at a place
abbrev pub given : ℕ → ℕ → List Term
given at zero = []
given at (suc count) = col 0 at ∷ given (suc at) count

-- a row is put with its number as rowid, and this many columns more
abbrev pub puts_numbered : ℕ → ℕ → Command
puts_numbered place more = Insert place (Values (col 0 0 ∷ lit Null ∷ given 1 more) (more + 2))

-- a row of this many columns is put under a rowid that the table chooses
abbrev pub puts_row : ℕ → ℕ → Command
puts_row place columns = Insert place (Values (lit Null ∷ given 0 columns) (columns + 1))

-- the rows that pass the tests are removed
abbrev pub taking : ℕ → List Term → Command
taking place tests = Delete place (program (one_table (table_at place).tree tests (col 1 0 ∷ [])))

-- the same, if their columns at some places are the parameters
abbrev pub takes_rows : ℕ → List ℕ → Command
takes_rows place tests = taking place (are_params 0 tests)

-- the rows that pass the tests are exchanged for these columns
abbrev pub exchanging : ℕ → List Term → List Term → Command
exchanging place tests columns = Update place (program (one_table (table_at place).tree tests (col 1 0 ∷ columns)))

-- the same, if their columns at some places are the parameters
abbrev pub exchanges_rows : ℕ → List ℕ → List Term → Command
exchanges_rows place tests columns = exchanging place (are_params 0 tests) columns

-- ---- texts

-- Under the schema of the hub the text is this statement. It returns no rows and reads no clock.
pub record Says (text : List ℕ) (command : Command) : Type 0 where
  pub is : command_of (understood hub_schema text) ≡ command
  pub plain : IsPlain (understood hub_schema text)

-- Under the schema of the hub the text is this query. It names no listing of the tables.
pub record Asks (text : List ℕ) (query : Query) : Type 0 where
  pub names : List (List ℕ)
  pub is : command_of (understood hub_schema text) ≡ Select (program query) names
  pub plain : IsPlain (understood hub_schema text)
  pub unlisted : reads_listing hub_schema text ≡ false
