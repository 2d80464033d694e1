use Rattle.{std.proofs.Common.[], hub_store.proofs.{Edits.Steps.{made_by, fails_by}, Versions.{DropCauses.{drop_fails, drops_empty}, Migrating.drop_incident}}}
use Rattle.hub_store.{proofs.Versions.Migrating.{drops_incident, incident_dropping}, specs.{Layout.without_incidents, Parts.HoldsParts, Tables.beside_item}}
use Rattle.hub_store.specs.{Tables.incident_table, inner.Beside.HoldsBeside}
use Rattle.hub_store.proofs.to_version_2.drop_incident.Goals as goal

pub returns-clause-empty : goal.returns-clause-empty
returns-clause-empty g c = drops_empty beside_item drop_incident 9 (record incident_table { tree = 18 }) incident_dropping g.S.Store _ _ _ c.run.ensures.goes c.run.ensures.ran c.run.ensures.failed

pub returns-clause-made : goal.returns-clause-made
returns-clause-made g c s items = made_by g.S.Store drop_incident [] _ _ (HoldsBeside items s) (HoldsParts (without_incidents items s)) _ c.run.ensures.goes c.run.ensures.ran (λ mid count h. drops_incident mid _ s items count h)

pub returns-clause-cause : goal.returns-clause-cause
returns-clause-cause g c s items =
    fails_by g.S.Store drop_incident [] _ _ (HoldsBeside items s) _ c.run.ensures.failed
    (λ mid e h has other. drop_fails beside_item drop_incident 9 (record incident_table { tree = 18 }) incident_dropping mid _ has.parts.known e other h)
