use Rattle.{std.proofs.Common.{◌≡◌, drop}, serde_json.specs.View.items_view, iodef_tree.specs.Texts.are_plain}
use Rattle.iodef_tree.proofs.value_text.+plain.Given as goal

abbrev pub invariant-are_plain-loop-item : goal.invariant-are_plain-loop-item
invariant-are_plain-loop-item l =
    are_plain l.deep (items_view (drop l.item-index l.item-items)) ≡ are_plain l.deep (items_view l.items.items)
