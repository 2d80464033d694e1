use Rattle.{std.proofs.Common.{◌≡◌, ◌++◌, drop, map}, iodef_tree.specs.View.{forest, bodies, body, members_forest}, sketch.specs.inner.Held.{shown, left_below}}
use Rattle.sketch.specs.inner.Held.{holdings_below, many_left, many_holdings, bodies_left, bodies_holdings}
use Rattle.sketch.proofs.holding.+holdings.Given as goal

abbrev pub invariant-push_below-loop-name : goal.invariant-push_below-loop-name
invariant-push_below-loop-name l = record {
  held : map shown l.held.items ++ holdings_below l.left (members_forest (drop l.name-index l.name-items)) ≡ map shown l.fn.held.items ++ holdings_below l.handlings (forest l.object);
  left : left_below l.left (members_forest (drop l.name-index l.name-items)) ≡ left_below l.handlings (forest l.object);
}

abbrev pub invariant-push_member-loop-item : goal.invariant-push_member-loop-item
invariant-push_member-loop-item l = record {
  held : map shown l.held.items ++ many_holdings l.left l.name (map body (drop l.item-index l.item-items)) ≡ map shown l.fn.held.items ++ bodies_holdings l.handlings l.name (bodies l.member);
  left : many_left l.left (map body (drop l.item-index l.item-items)) ≡ bodies_left l.handlings (bodies l.member);
}
