use Rattle.hub_store.proofs.Edits.Steps.{creates_then, creates_not}
use Rattle.hub_store.proofs.to_version_2.make_tables_2.Goals as goal

pub returns-in_err-create_item-clause-made : goal.returns-in_err-create_item-clause-made
returns-in_err-create_item-clause-made g c = creates_not c.from_residual.ensures.1 c.in_err-create_item.ensures.empty

pub returns-in_err-drop_incident-clause-made : goal.returns-in_err-drop_incident-clause-made
returns-in_err-drop_incident-clause-made g c = creates_not c.from_residual-in_err-drop_incident.ensures.1 (creates_then c.in_ok-create_item.ensures.empty c.in_err-drop_incident.ensures.empty)

pub returns-clause-made : goal.returns-clause-made
returns-clause-made g c = creates_then c.in_ok-create_item.ensures.empty (creates_then c.in_ok-drop_incident.ensures.empty c.create_incident.ensures.empty)
