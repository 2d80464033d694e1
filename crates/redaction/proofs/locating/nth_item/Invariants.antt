use Rattle.{std.proofs.Common.{◌≡◌, drop}, json.specs.Value.items_view, redaction.specs.Places.nth_item}
use Rattle.redaction.proofs.locating.nth_item.Given as goal

abbrev pub invariant-loop-item : goal.invariant-loop-item
invariant-loop-item l =
    nth_item (items_view (drop l.item-index l.item-items)) l.left ≡ nth_item (items_view l.items.items) l.place
