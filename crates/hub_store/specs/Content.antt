-- Which state of the hub a connection has.
use Rattle.std.specs.Prelude.{◌≡◌, ℕ, Option, Some, None, IsTrue}
use Rattle.sqlite_trees.specs.Tree.{Trees}
use Rattle.sqlite.specs.State.{State}
use Rattle.hub_state.specs.Sound.{IsSound}
use Rattle.hub_store.specs.Layout.{newest}
use Rattle.hub_store.specs.Means.{TreesHoldAs, HoldsAs, Holds}
use Rattle.hub_state.specs.State as core

-- The state is sound, and if the store is open, its last commit is this state in the tables of the version and nothing
-- is underway. A shut store has any sound state.
pub record HasAs (v : ℕ) (c : State) (s : core.State) : Type 0 where
  pub sound : IsSound s
  pub holds : IsTrue c.is_open → HoldsAs v c.committed s
  pub settled : IsTrue c.is_open → c.now ≡ c.committed

-- the trees hold this state in the tables of the version, and it is sound
pub record StandForAs (v : ℕ) (db : Trees) (s : core.State) : Type 0 where
  pub sound : IsSound s
  pub holds : TreesHoldAs v db s

-- the state that the trees of a version stand for; None if they stand for none
abbrev pub IsMeaningAs : ℕ → Trees → Option core.State → Type 0
IsMeaningAs v db (Some s) = StandForAs v db s
IsMeaningAs v db None = (s : core.State) → ¬ StandForAs v db s

-- after a crash at this moment an open may find trees of the version that stand for this state, or for none
abbrev pub MayLeaveAs : ℕ → State → Option core.State → Type 0
MayLeaveAs v c left = (db : Trees) × c.may_leave db × IsMeaningAs v db left

-- ---- the newest version

-- the connection has this state in the newest version
abbrev pub Has : State → core.State → Type 0
Has c s = HasAs newest c s

-- the store is open, and its last commit is this state
pub record CommitsState (c : State) (s : core.State) : Type 0 where
  pub is_open : IsTrue c.is_open
  pub holds : Holds c.committed s
  pub settled : c.now ≡ c.committed

-- the trees stand for this state in the newest version
abbrev pub StandFor : Trees → core.State → Type 0
StandFor db s = StandForAs newest db s

-- the state that the trees stand for in the newest version; None if they stand for none
abbrev pub IsMeaning : Trees → Option core.State → Type 0
IsMeaning db left = IsMeaningAs newest db left

-- what an open may find in the newest version after a crash at this moment
abbrev pub MayLeave : State → Option core.State → Type 0
MayLeave c left = MayLeaveAs newest c left
