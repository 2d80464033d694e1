use Rattle.{std.{proofs.Common.{◌≡◌, drop, Ok}, specs.List.list_any}, sqlite.specs.Held.state, circle.specs.Reads.communities_of}
use Rattle.hub_store.specs.inner.{Queries.IsReadInside, ShownPairs.{is_one_of, linked_with, are_linked}}
use Rattle.hub_store.proofs.find_ties.read_others.Given as goal

abbrev pub invariant-loop-community : goal.invariant-loop-community
invariant-loop-community g l = record {
  same_reference : l.tx.conn.ghost_name ≡ l.fn.tx.conn.ghost_name;
  read : IsReadInside {T = Unit {0}} (state g.S.Store l.fn.tx.conn.now) (state g.S.Store l.tx.conn.now) (λ s _. (l.communities.items ≡ communities_of l.source s.directory) × (list_any (λ n. list_any (is_one_of l.communities.items) (linked_with n s.directory)) (drop l.community-index l.own) ≡ are_linked l.own (communities_of l.source s.directory) s.directory)) (Ok tt);
}
