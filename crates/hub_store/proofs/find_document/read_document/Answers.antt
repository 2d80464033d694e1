use Rattle.{std.proofs.Common.{pos, ◌∷◌, []}, sqlite_value.specs.declared.value.Value.TheVariants.Int, sqlite.specs.Held.state}
use Rattle.hub_store.proofs.{LookUps.{Answering.read_shown, Incidents.reads_document}, Rows.Texts.lines_of_incident_is}
use Rattle.hub_store.proofs.find_document.read_document.Goals as goal

pub returns-clause-read : goal.returns-clause-read
returns-clause-read g c =
    read_shown g.S.Store lines_of_incident_is (Int (pos c.args.incident) ∷ []) c.args.tx.now.conn.now c.ask.new.tx.conn.now c.in_ok-rows.rows.items _ c.document_in.result c.ask.ensures.survives (λ clean. rw c.params-to_sql.ensures at (c.in_ok-rows.ensures.shown clean))
    (λ s holds sound answer. reads_document (state g.S.Store c.args.tx.now.conn.now).now.trees s c.args.incident c.in_ok-rows.rows.items c.document_in.result sound holds.means answer (rw c.deref.ensures.value at c.document_in.ensures))
