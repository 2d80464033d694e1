use Rattle.{std.proofs.Common.{◌≡◌, drop}, json.specs.Value.items_view, redaction.{proofs.SoFar.joined, specs.{Described.gate_in, Values.{each, each_from}}}}
use Rattle.redaction.proofs.gates.each_gate.Given as goal

abbrev pub invariant-loop-item : goal.invariant-loop-item
invariant-loop-item l = record {
  counted : l.place ≡ l.item-index;
  read : joined l.first l.found.items (each_from l.item-index gate_in (items_view (drop l.item-index l.item-items))) ≡ each gate_in (items_view l.items.items);
}
