use Rattle.hub_store.{proofs.Versions.Creates.{create_pair, pair_creation, creates}, specs.Tables.{up_to_grp, pair_table}}
use Rattle.hub_store.proofs.tables.make_pair.Goals as goal

pub returns-clause-made : goal.returns-clause-made
returns-clause-made g c = creates g.S.Store up_to_grp create_pair pair_table pair_creation _ _ _ c.run.ensures.goes c.run.ensures.ran c.run.ensures.failed
