use Rattle.hub_store.{proofs.Versions.Creates.{create_incident, incident_creation, creates}, specs.Tables.{up_to_permission, incident_table}}
use Rattle.hub_store.proofs.tables.make_incident.Goals as goal

pub returns-clause-made : goal.returns-clause-made
returns-clause-made g c = creates g.S.Store up_to_permission create_incident incident_table incident_creation _ _ _ c.run.ensures.goes c.run.ensures.ran c.run.ensures.failed
