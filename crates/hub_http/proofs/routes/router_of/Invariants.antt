use Rattle.{std.proofs.Common.{◌≡◌, fold, map, take, drop, [], true}, hub_http.specs.{Routes.{with_entry, take_all}, inner.Texts.entry_view}}
use Rattle.hub_http.proofs.routes.router_of.Given as goal

abbrev pub invariant-loop-entry : goal.invariant-loop-entry
invariant-loop-entry l = record {
  rows : l.router ≡ fold with_entry [] (map entry_view (take l.entry-index l.entries));
  left : take_all [] (map entry_view l.entries) ≡ true → take_all l.router (map entry_view (drop l.entry-index l.entries)) ≡ true;
}
