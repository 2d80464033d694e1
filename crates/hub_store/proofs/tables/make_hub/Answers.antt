use Rattle.hub_store.{proofs.Versions.Creates.{create_hub, hub_creation, creates}, specs.Tables.{no_schema, hub_table}}
use Rattle.hub_store.proofs.tables.make_hub.Goals as goal

pub returns-clause-made : goal.returns-clause-made
returns-clause-made g c = creates g.S.Store no_schema create_hub hub_table hub_creation _ _ _ c.run.ensures.goes c.run.ensures.ran c.run.ensures.failed
