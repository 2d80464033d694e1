use Rattle.{std.{proofs.Common.{◌≡◌, length}, specs.Vec.Iter.{into_iter_items, into_iter_len}}, circle.specs.Aftermath.edited_rows}
use Rattle.circle_rows.specs.Rows.{directory_of, IsAscending, HasRoom}
use Rattle.circle_rows.proofs.sets.Sets.edit_all.Given as goal

abbrev pub invariant-loop-edit : goal.invariant-loop-edit
invariant-loop-edit l =
    (edited_rows (into_iter_items l.edit-iterator) (directory_of l.self) ≡ edited_rows l.fn.edits.items (directory_of l.fn.self))
    × HasRoom (length (into_iter_items l.edit-iterator)) l.self
    × IsAscending (directory_of l.self)
    × (into_iter_len l.edit-iterator ≡ length (into_iter_items l.edit-iterator))
