use Rattle.{std.proofs.Common.{pos, ◌∷◌, []}, sqlite_value.specs.declared.value.Value.TheVariants.Int, sqlite.specs.Held.state, hub_state.specs.Reads.naming_of}
use Rattle.hub_store.proofs.{LookUps.{Answering.read_shown, Finding.reads_first, Incidents.naming_found}, Rows.Texts.incident_with_number_is}
use Rattle.hub_store.specs.inner.Shown.{naming_shown}
use Rattle.hub_store.proofs.find_naming.read_naming.Goals as goal

pub returns-clause-read : goal.returns-clause-read
returns-clause-read g c =
    read_shown g.S.Store incident_with_number_is (Int (pos c.args.incident) ∷ []) c.args.tx.now.conn.now c.ask.new.tx.conn.now c.in_ok-rows.rows.items _ c.first.result c.ask.ensures.survives (λ clean. rw c.params-to_sql.ensures at (c.in_ok-rows.ensures.shown clean))
    (λ s holds sound answer. reads_first naming_shown (naming_of c.args.incident s) c.in_ok-rows.rows.items c.first.result (naming_found (state g.S.Store c.args.tx.now.conn.now).now.trees s c.args.incident c.in_ok-rows.rows.items sound holds.means answer) (rw c.deref.ensures.value at c.first.ensures))
