use Rattle.{std.{proofs.Common.{◌≡◌, ◌++◌, map, rules, sym, subst}, specs.List.Sorted.IsPermutation}, circle.specs.Ordered.by_number}
use Rattle.{hub_state.specs.{Edits.edited, State.incident_number, declared.edit.Edit.TheVariants.PutIncident}, hub_store.proofs.Edits.Between.makes_to}
use Rattle.hub_store.proofs.{Edits.{Changes.with_incident, Steps.{kept_itself, survives_itself, makes_then}}, Rows.{Items.items_put, SetKinds.put_by-same}}
use Rattle.hub_store.specs.{Items.{items_from, items_in, items_of, item_row}, Means.HoldsBetween, Rows.named_row}
use Rattle.hub_store.proofs.incident_edits.put_incident.Goals as goal

pub returns-in_err-lines-clause-made : goal.returns-in_err-lines-clause-made
returns-in_err-lines-clause-made g c s = record { goes = record { kept = λ _ _. kept_itself _; inside = λ _ inside. search rules; survives = survives_itself _ }; made = λ _ _ before. search rules }

pub returns-in_err-insert_incident-clause-made : goal.returns-in_err-insert_incident-clause-made
returns-in_err-insert_incident-clause-made g c s =
    let one = c.in_err-insert_incident.ensures.made s in
    record { goes = record { kept = one.goes.kept; inside = λ _ inside. search rules; survives = one.goes.survives }; made = λ _ _ before. search rules }

pub returns-clause-made : goal.returns-clause-made
returns-clause-made g c s =
    let i = c.args.incident.now in
    let next = edited (PutIncident i) s in
    let lines : c.deref.result.now ≡ i.document = search rules in
    let more : IsPermutation (map item_row (items_from i.naming.number 1 c.deref.result.now) ++ map item_row (items_of s)) (map item_row (items_in next.incidents)) =
    subst (λ ls. IsPermutation (map item_row (items_from i.naming.number 1 ls) ++ map item_row (items_of s)) (map item_row (items_in next.incidents))) (sym lines) (items_put i s.incidents next.incidents (put_by-same (by_number incident_number) i s.incidents)) in
    makes_to (λ db between. with_incident db i s between)
    (makes_then _ _ _ _ (λ db. HoldsBetween (map item_row (items_of s)) (map named_row next.incidents) db s) _ tt _ (c.in_ok-insert_incident.ensures.made s) (c.put_lines.ensures.puts.edited s (map named_row next.incidents) (map item_row (items_of s)) (map item_row (items_in next.incidents)) more))
