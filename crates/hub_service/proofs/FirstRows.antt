-- The state of a new store is sound.
use Rattle.{std.proofs.Common.{◌≡◌, ℕ, List, rules, refl}, iodef_tree.specs.Text.Bytes, hub_core.specs.{Edits.with_edits, Sound.IsSound, State.empty}}
use Rattle.hub_service.specs.FirstRows.{first_edits, first_state}

pub first_is_after : (name : Bytes) (key : List ℕ) → with_edits (first_edits name key) empty ≡ first_state name key
first_is_after name key = refl

pub first_is_sound : (name : Bytes) (key : List ℕ) → IsSound (with_edits (first_edits name key) empty)
first_is_sound name key = search rules
