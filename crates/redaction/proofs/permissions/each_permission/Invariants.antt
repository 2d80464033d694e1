use Rattle.{std.proofs.Common.{◌≡◌, drop}, json.specs.Value.items_view, redaction.{proofs.SoFar.joined, specs.{Described.permission_in, Values.each}}}
use Rattle.redaction.specs.Values.{each_from}
use Rattle.redaction.proofs.permissions.each_permission.Given as goal

abbrev pub invariant-loop-item : goal.invariant-loop-item
invariant-loop-item l = record {
  counted : l.place ≡ l.item-index;
  read : joined l.first l.found.items (each_from l.item-index permission_in (items_view (drop l.item-index l.item-items))) ≡ each permission_in (items_view l.items.items);
}
