use Rattle.hub_store.{proofs.Versions.Creates.{create_community, community_creation, creates}, specs.Tables.{up_to_person, community_table}}
use Rattle.hub_store.proofs.tables.make_community.Goals as goal

pub returns-clause-made : goal.returns-clause-made
returns-clause-made g c = creates g.S.Store up_to_person create_community community_table community_creation _ _ _ c.run.ensures.goes c.run.ensures.ran c.run.ensures.failed
