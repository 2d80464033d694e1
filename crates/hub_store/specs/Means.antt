-- The state that the tables stand for.
use Rattle.std.specs.Prelude.{◌≡◌, ℕ, List, map}
use Rattle.std.specs.List.{AllByRecursion}
use Rattle.sqlite_value.specs.Order.{Row}
use Rattle.sqlite_trees.specs.Tree.{Trees}
use Rattle.sqlite.specs.Effect.{Database, IsDatabase}
use Rattle.hub_state.specs.State.{State}
use Rattle.hub_store.specs.Tables.{schema_by}
use Rattle.hub_store.specs.Holdings.{Holding, IsHeld}
use Rattle.hub_store.specs.Parts.{held}
use Rattle.hub_store.specs.Layout.{newest, parts_by, newest_tables}
use Rattle.hub_store.specs.Fit.{IsFit, FitAs}

-- what each table of a version holds of a state
abbrev pub holdings_by : ℕ → State → List Holding
holdings_by v s = map held (parts_by v s)

-- each table of a version holds the rows of its set
abbrev pub MeansAs : ℕ → Trees → State → Type 0
MeansAs v db s = AllByRecursion (IsHeld db) (holdings_by v s)

-- The database has the schema of a version and obeys it, its rows stand for this state, and they keep the limits.
pub record HoldsAs (v : ℕ) (db : Database) (s : State) : Type 0 where
  pub known : db.schema ≡ schema_by v
  pub whole : IsDatabase db
  pub means : MeansAs v db.trees s
  pub fit : FitAs v s

-- the trees hold this state in the tables of a version, as a crash leaves them
abbrev pub TreesHoldAs : ℕ → Trees → State → Type 0
TreesHoldAs v db s = HoldsAs v (record { schema = schema_by v; trees = db }) s

-- ---- the newest version

-- between two statements of one edit: the tables have these lines and incidents, and all else of a state
pub record HoldsBetween (items incidents : List Row) (db : Database) (s : State) : Type 0 where
  pub known : db.schema ≡ schema_by newest
  pub whole : IsDatabase db
  pub means : AllByRecursion (IsHeld db.trees) (map held (newest_tables items incidents s))
  pub fit : IsFit s

-- what each table of the newest version holds of a state
abbrev pub holdings : State → List Holding
holdings s = holdings_by newest s

-- each table of the newest version holds the rows of its set
abbrev pub Means : Trees → State → Type 0
Means db s = MeansAs newest db s

-- the database holds this state in the newest version
abbrev pub Holds : Database → State → Type 0
Holds db s = HoldsAs newest db s

-- the trees hold this state in the newest version
abbrev pub TreesHold : Trees → State → Type 0
TreesHold db s = TreesHoldAs newest db s
