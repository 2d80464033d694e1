use Rattle.{std.proofs.Common.rules, hub_store.proofs.Edits.Steps.{kept_itself, survives_itself}}
use Rattle.hub_store.proofs.incident_edits.put_permission.Goals as goal

pub returns-in_err-path-clause-made : goal.returns-in_err-path-clause-made
returns-in_err-path-clause-made g c s = record { goes = record { kept = λ _ _. kept_itself _; inside = λ _ inside. search rules; survives = survives_itself _ }; made = λ _ _ before. search rules }

pub returns-clause-made : goal.returns-clause-made
returns-clause-made g c s = c.insert_permission.ensures.made (search rules) s
