-- The rows of a directory's change make that change.
use Rattle.{std.proofs.Common.{◌≡◌, map, refl}, circle.specs.{Aftermath.{rows_of, edited}, declared.command.Edit.{Edit as Change, TheVariants.{Row, Found}}}}
use Rattle.hub_state.specs.{Edits.with_edits, State.State}
use Rattle.hub_state.specs.declared.edit.Edit.TheVariants as edit

pub rows_make : (change : Change) (s : State) → with_edits (map edit.Directory (rows_of change)) s ≡ record s { directory = edited change s.directory }
rows_make (Row row) s = refl
rows_make (Found group) s = refl
