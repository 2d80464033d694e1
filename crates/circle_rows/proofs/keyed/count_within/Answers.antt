use Rattle.std.{proofs.{Common.rules, lemmas.List.Sorted.IsPartitionPoint-from_clause}, specs.{Ordering.is_lt, Prelude.not}}
use Rattle.circle.{proofs.Lookup.{parted_within, not_true, not_false}, specs.Ordered.pair_cmp}
use Rattle.circle_rows.proofs.keyed.count_within.Goals as goal

pub returns-clause-parted : goal.returns-clause-parted
returns-clause-parted g c up =
    let point = IsPartitionPoint-from_clause (λ x. not (is_lt (pair_cmp c.args.key (g.T.Keyed.key x)))) _ _ c.partition_point.ensures.partitioned (parted_within g.T.Keyed.key c.args.key c.args.rows.now up) (λ a r q k. search rules) in
    ((λ k d low high. not_true _ (point.0 k d low high)), (λ k d low high. not_false _ (point.1 k d low high)))
