use Rattle.{std.proofs.Common.{◌≡◌, ◌+◌, ◌≤◌, drop}, json.specs.Value.items_view, redaction.specs.Described.root_gates}
use Rattle.redaction.proofs.gates.root_gates.Given as goal

abbrev pub invariant-loop-item : goal.invariant-loop-item
invariant-loop-item l = record {
  counted : l.count + root_gates (items_view (drop l.item-index l.item-items)) ≡ root_gates (items_view l.items.items);
  within : l.count ≤ l.item-index;
}
