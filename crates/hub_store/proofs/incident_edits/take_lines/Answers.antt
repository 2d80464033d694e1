use Rattle.{std.proofs.Common.{map, filter, not, ◌==◌}, hub_store.proofs.{Edits.{Changes.takes_lines, Steps.made_by}, Rows.Texts.take_lines}}
use Rattle.hub_store.specs.{Items.{Item, items_of, item_row}, Means.{Holds, HoldsBetween}, Rows.named_row}
use Rattle.hub_store.proofs.incident_edits.take_lines.Goals as goal

pub returns-clause-made : goal.returns-clause-made
returns-clause-made g c s =
    made_by g.S.Store take_lines _ _ _ (λ db. Holds db s) (λ db. HoldsBetween (map item_row (filter (λ (x : Item). not (x.incident == c.args.incident)) (items_of s))) (map named_row s.incidents) db s) _ c.run.ensures.goes (λ clean inside. rw c.params-to_sql.ensures at (c.run.ensures.ran clean inside)) (λ mid count h held. takes_lines mid _ c.args.incident count h s held)
