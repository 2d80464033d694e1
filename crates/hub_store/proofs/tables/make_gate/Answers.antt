use Rattle.hub_store.{proofs.Versions.Creates.{create_gate, gate_creation, creates}, specs.Tables.{up_to_pair, gate_table}}
use Rattle.hub_store.proofs.tables.make_gate.Goals as goal

pub returns-clause-made : goal.returns-clause-made
returns-clause-made g c = creates g.S.Store up_to_pair create_gate gate_table gate_creation _ _ _ c.run.ensures.goes c.run.ensures.ran c.run.ensures.failed
