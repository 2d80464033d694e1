use Rattle.{std.proofs.Common.{◌≡◌, ◌++◌, map, drop}, hub_state.specs.{Bare.kept_edit, inner.Changes.{row_edit, directory_edits, row_edits}}}
use Rattle.hub_state.proofs.change.changes_of.Given as goal

abbrev pub invariant-loop-edit : goal.invariant-loop-edit
invariant-loop-edit l = record {
  directory : l.directory.items ++ directory_edits (map (kept_edit l.documents) (drop l.edit-index l.edits)) ≡ directory_edits (map (kept_edit l.documents) l.fn.edits);
  rows : map row_edit l.rows.items ++ row_edits (map (kept_edit l.documents) (drop l.edit-index l.edits)) ≡ row_edits (map (kept_edit l.documents) l.fn.edits);
}
