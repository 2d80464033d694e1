use Rattle.{std.{proofs.Common.◌≡◌, specs.Vec.Iter.into_iter_items}, serde_json.specs.View.{items_view, members_view}}
use Rattle.iodef_tree.{proofs.DocumentLists.with_front, specs.{Reading.documents, inner.FitValues.AreFit}}
use Rattle.iodef_tree.proofs.read.documents_beside.Given as goal

abbrev pub invariant-loop-incident : goal.invariant-loop-incident
invariant-loop-incident l = record {
  left : with_front l.all.items (documents (members_view l.root.entries) (items_view (into_iter_items l.incident-iterator))) ≡ documents (members_view l.root.entries) (items_view l.fn.incidents.items);
  fit : AreFit (members_view l.root.entries) (items_view (into_iter_items l.incident-iterator));
}
