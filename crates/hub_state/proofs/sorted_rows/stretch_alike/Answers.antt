use Rattle.std.proofs.{Common.{rules, ◌≡◌, ◌≤◌, length, true, false, subst}, lemmas.List.Sorted.IsPartitionPoint-from_clause}
use Rattle.{std.specs.{List.Sorted.{IsPartitionPoint, IsPartitionedBy}, Ordering.{is_lt, is_eq}}, hub_state.proofs.Ranked.alike_stretch}
use Rattle.hub_state.proofs.sorted_rows.stretch_alike.Goals as goal

pub returns : goal.returns
returns g c =
    alike_stretch g.T.Row.order c.args.row.now c.args.rows.now c.partition_point-from.result c.partition_point-count.result g.met.T.Row.total c.requires c.partition_point-from.ensures.bound
    (subst (λ l. c.partition_point-count.result ≤ length l) c.split_at.ensures.back c.partition_point-count.ensures.bound)
    (λ parted. IsPartitionPoint-from_clause (λ y. is_lt (g.T.Row.order y c.args.row.now)) c.args.rows.now c.partition_point-from.result c.partition_point-from.ensures.partitioned parted (λ a r q k. search rules))
    (λ parted. subst (λ l. IsPartitionedBy (λ y. is_eq (g.T.Row.order y c.args.row.now)) l → IsPartitionPoint (λ y. is_eq (g.T.Row.order y c.args.row.now) ≡ true) (λ y. is_eq (g.T.Row.order y c.args.row.now) ≡ false) l c.partition_point-count.result) c.split_at.ensures.back
    (λ halves. IsPartitionPoint-from_clause (λ y. is_eq (g.T.Row.order y c.args.row.now)) c.split_at.result.1.now c.partition_point-count.result c.partition_point-count.ensures.partitioned halves (λ a r q k. search rules)) parted)
