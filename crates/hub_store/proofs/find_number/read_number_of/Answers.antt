use Rattle.{std.proofs.Common.{pos, ◌∷◌, [], option_map}, sqlite_value.specs.declared.value.Value.TheVariants.{Int, Text}, sqlite.specs.Held.state}
use Rattle.{hub_state.specs.State.{incident_named, incident_number}, hub_store.proofs.LookUps.{Answering.read_shown, Named.{number_found, reads_number}}}
use Rattle.hub_store.proofs.Rows.Texts.{incident_with_ident_is}
use Rattle.hub_store.proofs.find_number.read_number_of.Goals as goal

pub returns-clause-read : goal.returns-clause-read
returns-clause-read g c =
    read_shown g.S.Store incident_with_ident_is (Int (pos c.args.source) ∷ Text c.args.ident.now ∷ []) c.args.tx.now.conn.now c.ask.new.tx.conn.now c.in_ok-rows.rows.items _ c.first.result c.ask.ensures.survives (λ clean. rw (c.params-to_sql.ensures, c.params-to_sql-2.ensures, c.as_str.ensures) at (c.in_ok-rows.ensures.shown clean))
    (λ s holds sound answer. reads_number (option_map incident_number (incident_named c.args.source c.args.ident.now s)) c.in_ok-rows.rows.items c.first.result (number_found (state g.S.Store c.args.tx.now.conn.now).now.trees s c.args.source c.args.ident.now c.in_ok-rows.rows.items sound holds.means answer) (rw c.deref.ensures.value at c.first.ensures))
