use Rattle.{std.{proofs.Common.{◌≡◌, ◌++◌, drop, Ok}, specs.List.filter_map}, sqlite.specs.Held.state, hub_store.specs.inner.Queries.IsReadInside}
use Rattle.hub_store.specs.inner.ShownPairs.{group_if_any, groups_in}
use Rattle.hub_store.proofs.find_groups.read_groups.Given as goal

abbrev pub invariant-loop-member : goal.invariant-loop-member
invariant-loop-member g l = record {
  same_reference : l.tx.conn.ghost_name ≡ l.fn.tx.conn.ghost_name;
  read : IsReadInside {T = Unit {0}} (state g.S.Store l.fn.tx.conn.now) (state g.S.Store l.tx.conn.now) (λ s _. l.groups.items ++ filter_map (group_if_any s.directory) (drop l.member-index l.member-items) ≡ groups_in l.org s.directory) (Ok tt);
}
