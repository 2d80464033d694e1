use Rattle.{std.{proofs.Common.{◌≡◌, ◌+◌, ◌++◌, length}, specs.Vec.Iter.into_iter_items}, hub_state.specs.Aftermath.put_incidents}
use Rattle.hub_core.proofs.judging.post.put_incidents.Given as goal

abbrev pub invariant-loop-posted : goal.invariant-loop-posted
invariant-loop-posted l = record {
  left : l.edits.items ++ put_incidents l.posting.source l.number (record { community = l.posting.community; level = l.posting.level; group = l.posting.group; gates = l.gates }) (into_iter_items l.posted-iterator)
      ≡ put_incidents l.posting.source l.fn.first (record { community = l.posting.community; level = l.posting.level; group = l.posting.group; gates = l.gates }) l.fn.documents.items;
  count : l.number + length (into_iter_items l.posted-iterator) ≡ l.fn.first + length l.fn.documents.items;
}
