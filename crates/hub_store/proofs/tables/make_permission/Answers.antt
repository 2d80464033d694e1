use Rattle.hub_store.{proofs.Versions.Creates.{create_permission, permission_creation, creates}, specs.Tables.{up_to_recipient, permission_table}}
use Rattle.hub_store.proofs.tables.make_permission.Goals as goal

pub returns-clause-made : goal.returns-clause-made
returns-clause-made g c = creates g.S.Store up_to_recipient create_permission permission_table permission_creation _ _ _ c.run.ensures.goes c.run.ensures.ran c.run.ensures.failed
