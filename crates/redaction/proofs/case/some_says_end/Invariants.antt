use Rattle.{std.proofs.Common.{◌≡◌, drop}, json.specs.Value.items_view, redaction.specs.Described.some_says_end}
use Rattle.redaction.proofs.case.some_says_end.Given as goal

abbrev pub invariant-loop-item : goal.invariant-loop-item
invariant-loop-item l = some_says_end (items_view (drop l.item-index l.item-items)) ≡ some_says_end (items_view l.items.items)
