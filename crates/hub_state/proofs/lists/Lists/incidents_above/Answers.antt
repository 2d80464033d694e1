use Rattle.std.{proofs.{Common.{rules, ◌∙◌, subst, filter, drop, ap, sym}, lemmas.List.Sorted.IsPartitionPoint-from_clause}, specs.Prelude.{nat_le, nat_lt}}
use Rattle.hub_state.{proofs.Found.all_above, specs.{InOrder.IsInOrder, Orders.incident_cmp, declared.state.Incident.Incident}}
use Rattle.hub_state.proofs.lists.Lists.incidents_above.Goals as goal

pub returns : goal.returns
returns c = λ d.
    let above = all_above c.args.number c.deref.result.now c.partition_point-from.result (subst (IsInOrder incident_cmp) (sym c.deref.ensures.value) c.requires.incidents) c.partition_point-from.ensures.bound
    (λ parted. IsPartitionPoint-from_clause (λ (i : Incident). nat_le i.naming.number c.args.number) c.deref.result.now c.partition_point-from.result c.partition_point-from.ensures.partitioned parted (λ a r q k. search rules)) in
    c.split_at.ensures.back ∙ (ap (drop c.partition_point-from.result) (c.deref-2.ensures.value ∙ sym c.deref.ensures.value) ∙ (above ∙ ap (λ l. filter (λ (i : Incident). nat_lt c.args.number i.naming.number) l) c.deref.ensures.value))
