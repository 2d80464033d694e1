use Rattle.{std.proofs.Common.[], hub_store.proofs.{Edits.Steps.{made_by, fails_by}, Versions.{Causes.fails_for_reason, Creates.creates}}}
use Rattle.hub_store.{proofs.Versions.Migrating.{create_incident_2, incident_creation_2, makes_incident}, specs.Layout.{without_incidents, tables_2}}
use Rattle.hub_store.specs.{Parts.HoldsParts, Tables.{without_incident, incident_table_2}}
use Rattle.hub_store.proofs.to_version_2.create_incident.Goals as goal

pub returns-clause-empty : goal.returns-clause-empty
returns-clause-empty g c = creates g.S.Store without_incident create_incident_2 incident_table_2 incident_creation_2 _ _ _ c.run.ensures.goes c.run.ensures.ran c.run.ensures.failed

pub returns-clause-made : goal.returns-clause-made
returns-clause-made g c s items = made_by g.S.Store create_incident_2 [] _ _ (HoldsParts (without_incidents items s)) (HoldsParts (tables_2 1 items [] s)) _ c.run.ensures.goes c.run.ensures.ran (λ mid count h. makes_incident mid _ s items count h)

pub returns-clause-cause : goal.returns-clause-cause
returns-clause-cause g c s items =
    fails_by g.S.Store create_incident_2 [] _ _ (HoldsParts (without_incidents items s)) _ c.run.ensures.failed (λ mid e h has other. fails_for_reason without_incident create_incident_2 incident_table_2 incident_creation_2 mid _ has.known e other h)
