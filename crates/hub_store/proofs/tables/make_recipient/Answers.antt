use Rattle.hub_store.{proofs.Versions.Creates.{create_recipient, recipient_creation, creates}, specs.Tables.{up_to_gate, recipient_table}}
use Rattle.hub_store.proofs.tables.make_recipient.Goals as goal

pub returns-clause-made : goal.returns-clause-made
returns-clause-made g c = creates g.S.Store up_to_gate create_recipient recipient_table recipient_creation _ _ _ c.run.ensures.goes c.run.ensures.ran c.run.ensures.failed
