use Rattle.std.proofs.{Common.{rules, ◌≡◌, ◌≤◌, ◌==◌, length, true, false, subst}, lemmas.List.Sorted.IsPartitionPoint-from_clause}
use Rattle.{std.specs.{List.Sorted.{IsPartitionPoint, IsPartitionedBy}, Prelude.nat_lt}, hub_state.proofs.Ranked.owned_stretch}
use Rattle.hub_state.proofs.sorted_rows.stretch_of.Goals as goal

pub returns : goal.returns
returns g c =
    owned_stretch g.T.Row.order g.T.Row.owner c.args.number c.args.rows.now c.partition_point-from.result c.partition_point-count.result g.met.T.Row.together c.requires c.partition_point-from.ensures.bound
    (subst (λ l. c.partition_point-count.result ≤ length l) c.split_at.ensures.back c.partition_point-count.ensures.bound)
    (λ parted. IsPartitionPoint-from_clause (λ y. nat_lt (g.T.Row.owner y) c.args.number) c.args.rows.now c.partition_point-from.result c.partition_point-from.ensures.partitioned parted (λ a r q k. search rules))
    (λ parted. subst (λ l. IsPartitionedBy (λ y. g.T.Row.owner y == c.args.number) l → IsPartitionPoint (λ y. (g.T.Row.owner y == c.args.number) ≡ true) (λ y. (g.T.Row.owner y == c.args.number) ≡ false) l c.partition_point-count.result) c.split_at.ensures.back
    (λ halves. IsPartitionPoint-from_clause (λ y. g.T.Row.owner y == c.args.number) c.split_at.result.1.now c.partition_point-count.result c.partition_point-count.ensures.partitioned halves (λ a r q k. search rules)) parted)
