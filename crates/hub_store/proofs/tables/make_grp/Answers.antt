use Rattle.hub_store.{proofs.Versions.Creates.{create_grp, grp_creation, creates}, specs.Tables.{up_to_community, grp_table}}
use Rattle.hub_store.proofs.tables.make_grp.Goals as goal

pub returns-clause-made : goal.returns-clause-made
returns-clause-made g c = creates g.S.Store up_to_community create_grp grp_table grp_creation _ _ _ c.run.ensures.goes c.run.ensures.ran c.run.ensures.failed
