use Rattle.{std.proofs.Common.{map, filter, not, ◌==◌}, hub_state.specs.{Edits.edited, declared.edit.Edit.TheVariants.TakeIncident}}
use Rattle.hub_store.{proofs.{Edits.{Changes.takes_incident, Steps.made_by}, Rows.Texts.take_incident}, specs.{Items.{Item, items_of, item_row}, Means.Holds}}
use Rattle.hub_store.specs.{Means.HoldsBetween, Rows.named_row}
use Rattle.hub_store.proofs.incident_edits.remove_incident.Goals as goal

pub returns-clause-made : goal.returns-clause-made
returns-clause-made g c s =
    made_by g.S.Store take_incident _ _ _ (λ db. HoldsBetween (map item_row (filter (λ (x : Item). not (x.incident == c.args.number)) (items_of s))) (map named_row s.incidents) db s) (λ db. Holds db (edited (TakeIncident c.args.number) s)) _ c.run.ensures.goes (λ clean inside. rw c.params-to_sql.ensures at (c.run.ensures.ran clean inside)) (λ mid count h held. takes_incident mid _ c.args.number count h s held)
