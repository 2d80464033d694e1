use Rattle.hub_store.{proofs.Versions.Creates.{create_person, person_creation, creates}, specs.Tables.{up_to_org, person_table}}
use Rattle.hub_store.proofs.tables.make_person.Goals as goal

pub returns-clause-made : goal.returns-clause-made
returns-clause-made g c = creates g.S.Store up_to_org create_person person_table person_creation _ _ _ c.run.ensures.goes c.run.ensures.ran c.run.ensures.failed
