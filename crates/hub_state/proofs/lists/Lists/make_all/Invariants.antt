use Rattle.{std.{proofs.Common.{◌≡◌, map, length}, specs.Vec.Iter.into_iter_items}, circle.specs.Directory.Directory, hub_state.specs.Edits.with_edits}
use Rattle.hub_state.specs.{Lists.{AreInOrder, HasRoom, with_directory}, inner.Changes.row_edit}
use Rattle.hub_state.proofs.lists.Lists.make_all.Given as goal

abbrev pub invariant-loop-change : goal.invariant-loop-change
invariant-loop-change l = record {
  left : (d : Directory) → with_edits (map row_edit (into_iter_items l.change-iterator)) (with_directory d l.self) ≡ with_edits (map row_edit l.fn.changes.items) (with_directory d l.fn.self);
  in_order : AreInOrder l.self;
  room : HasRoom (length (into_iter_items l.change-iterator)) l.self;
}
