use Rattle.{std.{proofs.{Common.rules, lemmas.List.Sorted.IsPartitionPoint-from_clause}, specs.Ordering.is_lt}, circle.proofs.Lookup.parted_below}
use Rattle.circle.specs.Ordered.{pair_cmp}
use Rattle.circle_rows.proofs.keyed.count_below.Goals as goal

pub returns-clause-parted : goal.returns-clause-parted
returns-clause-parted g c up = IsPartitionPoint-from_clause (λ x. is_lt (pair_cmp (g.T.Keyed.key x) c.args.key)) _ _ c.partition_point.ensures.partitioned (parted_below g.T.Keyed.key c.args.key c.args.rows.now up) (λ a r q k. search rules)
