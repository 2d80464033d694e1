-- What a call that puts an incident's lines makes of the table of lines.
use Rattle.std.specs.Prelude.{ℕ, List, ◌++◌, map, Result, IsPermutation}
use Rattle.sqlite_value.specs.Order.{Row}
use Rattle.sqlite.specs.declared.error.Error.{Error}
use Rattle.sqlite.specs.State.{State}
use Rattle.hub_state.specs.Documents.{Lines}
use Rattle.hub_store.specs.Items.{items_from, item_row}
use Rattle.hub_store.specs.Means.{HoldsBetween}
use Rattle.hub_store.specs.Keeps.{Goes}
use Rattle.hub_store.specs.inner.Makes.{Makes, FailsOnly}
use Rattle.hub_store.specs.inner.Beside.{HoldsBeside, CanStand}
use Rattle.hub_state.specs.State as core

-- The second rows are the first and those of the lines, which begin at this place.
abbrev pub HasMore : ℕ → ℕ → Lines → List Row → List Row → Type 0
HasMore incident place lines items more = IsPermutation (map item_row (items_from incident place lines) ++ items) more

-- The lines are put between two statements of an edit, or between version 1 and version 2.
pub record PutsLines {T : Type 0} (incident place : ℕ) (lines : Lines) (old new : State) (result : Result T Error) : Type 0 where
  pub goes : Goes old new result
  pub edited : (s : core.State) → (incidents items more : List Row) →
      HasMore incident place lines items more →
      Makes old new (λ db. HoldsBetween items incidents db s) (λ db. HoldsBetween more incidents db s) result
  pub moved : (s : core.State) → (items more : List Row) → HasMore incident place lines items more →
      Makes old new (HoldsBeside items s) (HoldsBeside more s) result
  -- putting lines that the table takes fails only for a reason
  pub cause : (s : core.State) → (items more : List Row) → HasMore incident place lines items more →
      CanStand more → FailsOnly old new (HoldsBeside items s) result
