use Rattle.hub_store.{proofs.Versions.Creates.{create_org, org_creation, creates}, specs.Tables.{up_to_hub, org_table}}
use Rattle.hub_store.proofs.tables.make_org.Goals as goal

pub returns-clause-made : goal.returns-clause-made
returns-clause-made g c = creates g.S.Store up_to_hub create_org org_table org_creation _ _ _ c.run.ensures.goes c.run.ensures.ran c.run.ensures.failed
