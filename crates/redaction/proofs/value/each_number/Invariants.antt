use Rattle.{std.proofs.Common.{◌≡◌, drop}, json.specs.Value.items_view, redaction.{proofs.SoFar.joined, specs.Values.{each, each_from, number_in}}}
use Rattle.redaction.proofs.value.each_number.Given as goal

abbrev pub invariant-loop-item : goal.invariant-loop-item
invariant-loop-item l = record {
  counted : l.place ≡ l.item-index;
  read : joined l.first l.found.items (each_from l.item-index number_in (items_view (drop l.item-index l.item-items))) ≡ each number_in (items_view l.items.items);
}
