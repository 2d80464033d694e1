use Rattle.{std.{proofs.Common.{◌≡◌, ◌++◌, drop, Ok}, specs.List.filter_map}, sqlite.specs.Held.state, hub_store.specs.inner.Queries.IsReadInside}
use Rattle.hub_store.specs.inner.ShownPairs.{community_if_any, communities_in}
use Rattle.hub_store.proofs.find_joined_communities.read_joined_communities.Given as goal

abbrev pub invariant-loop-number : goal.invariant-loop-number
invariant-loop-number g l = record {
  same_reference : l.tx.conn.ghost_name ≡ l.fn.tx.conn.ghost_name;
  read : IsReadInside {T = Unit {0}} (state g.S.Store l.fn.tx.conn.now) (state g.S.Store l.tx.conn.now)
      (λ s _. l.communities.items ++ filter_map (community_if_any s.directory) (drop l.number-index l.number-items) ≡ communities_in l.org s.directory) (Ok tt);
}
