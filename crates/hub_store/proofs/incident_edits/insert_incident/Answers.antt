use Rattle.{std.proofs.{Common.{map, ◌∷◌}, lemmas.List.Sorted.IsPermutation-map}, circle.specs.Ordered.by_number, hub_state.specs.Edits.edited}
use Rattle.{hub_state.specs.{State.incident_number, declared.edit.Edit.TheVariants.PutIncident}, hub_store.proofs.Edits.Between.{as_between, makes_from}}
use Rattle.hub_store.{proofs.Rows.SetKinds.put_by-same, specs.{Items.{item_row, items_of}, Rows.named_row}}
use Rattle.hub_store.proofs.incident_edits.insert_incident.Goals as goal

pub returns-clause-made : goal.returns-clause-made
returns-clause-made g c s =
    makes_from (λ db held. as_between db s held) (c.put_naming.ensures.edited s (map item_row (items_of s)) (map named_row s.incidents) (map named_row (edited (PutIncident c.args.incident.now) s).incidents) (IsPermutation-map named_row (c.args.incident.now ∷ s.incidents) _ (put_by-same (by_number incident_number) c.args.incident.now s.incidents)))
