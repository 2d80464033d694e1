use Rattle.std.proofs.{Common.{rules, ◌≡◌, ◌∙◌, true, false, not, if◌then◌else◌, subst, sym, ap}, lemmas.List.Sorted.IsPartitionPoint-from_clause}
use Rattle.{std.specs.{List.{insert, Sorted.IsPartitionPoint}, Ordering.is_lt}, circle.specs.Ordered.put_by, hub_state.proofs.Ranked.{partitioned, above_back}}
use Rattle.hub_state.{proofs.Ranked.{put_inserted, put_in_order}, specs.InOrder.IsInOrder}
use Rattle.hub_state.proofs.sorted_rows.put.Given as given
use Rattle.hub_state.proofs.sorted_rows.put.Goals as goal

point : (g : given.Over) (c : goal.Else-is_err g) → IsPartitionPoint (λ y. not (is_lt (g.T.Row.order c.args.row y)) ≡ true) (λ y. not (is_lt (g.T.Row.order c.args.row y)) ≡ false) c.args.rows.now.items c.partition_point-at.result
point g c =
    let in_order : IsInOrder g.T.Row.order c.deref.result.now = subst (IsInOrder g.T.Row.order) (sym c.deref.ensures.value) c.requires.in_order in
    let parted = partitioned (λ a b. is_lt (g.T.Row.order b a) ≡ false) (λ y. not (is_lt (g.T.Row.order c.args.row y))) c.deref.result.now (above_back g.T.Row.order g.met.T.Row.total c.args.row) in_order in
    subst (λ l. IsPartitionPoint (λ y. not (is_lt (g.T.Row.order c.args.row y)) ≡ true) (λ y. not (is_lt (g.T.Row.order c.args.row y)) ≡ false) l c.partition_point-at.result) c.deref.ensures.value
    (IsPartitionPoint-from_clause (λ y. not (is_lt (g.T.Row.order c.args.row y))) c.deref.result.now c.partition_point-at.result c.partition_point-at.ensures.partitioned parted (λ a r q k. search rules))

is_put : (g : given.Over) (c : goal.Else-is_err g) → c.insert.new.self.items ≡ put_by g.T.Row.order c.args.row c.args.rows.now.items
is_put g c = c.insert.ensures.items ∙ (ap (λ b. if b then insert c.args.rows.now.items c.partition_point-at.result c.args.row else c.args.rows.now.items) (c.if-is_err.ensures.negation)
    ∙ put_inserted g.T.Row.order c.args.row c.args.rows.now.items c.partition_point-at.result (search rules) (point g c))

pub returns-clause-put : goal.returns-clause-put
returns-clause-put g c = is_put g c

pub returns-clause-in_order : goal.returns-clause-in_order
returns-clause-in_order g c = subst (IsInOrder g.T.Row.order) (sym (is_put g c)) (put_in_order g.T.Row.order c.args.row c.args.rows.now.items g.met.T.Row.total c.requires.in_order)
