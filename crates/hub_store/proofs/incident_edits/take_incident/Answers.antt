use Rattle.{std.proofs.Common.{map, filter, not, ◌==◌, rules}, hub_store.{proofs.Edits.Steps.makes_then, specs.Items.{Item, items_of, item_row}}}
use Rattle.hub_store.specs.{Means.HoldsBetween, Rows.named_row}
use Rattle.hub_store.proofs.incident_edits.take_incident.Goals as goal

pub returns-in_err-take_lines-clause-made : goal.returns-in_err-take_lines-clause-made
returns-in_err-take_lines-clause-made g c s =
    let one = c.in_err-take_lines.ensures.made s in
    record { goes = record { kept = one.goes.kept; inside = λ _ inside. search rules; survives = one.goes.survives }; made = λ _ _ before. search rules }

pub returns-clause-made : goal.returns-clause-made
returns-clause-made g c s =
    makes_then _ _ _ _ (λ db. HoldsBetween (map item_row (filter (λ (x : Item). not (x.incident == c.args.number)) (items_of s))) (map named_row s.incidents) db s) _ _ _ (c.in_ok-take_lines.ensures.made s) (c.remove_incident.ensures.made s)
