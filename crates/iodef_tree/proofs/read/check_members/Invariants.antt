use Rattle.{std.proofs.Common.{◌≡◌, drop}, serde_json.specs.View.items_view, iodef_tree.specs.Reading.all_complete}
use Rattle.iodef_tree.proofs.read.check_members.Given as goal

abbrev pub invariant-loop-index : goal.invariant-loop-index
invariant-loop-index l = all_complete l.index (items_view (drop l.index l.incident-items)) ≡ all_complete 0 (items_view l.incidents.items)
