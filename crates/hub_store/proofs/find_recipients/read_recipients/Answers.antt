use Rattle.{std.proofs.Common.{pos, ◌∷◌, [], Ok, ◌∙◌}, sqlite_value.specs.declared.value.Value.TheVariants.Int, sqlite.specs.Held.state}
use Rattle.{hub_state.specs.Reads.its_recipients, hub_store.proofs.LookUps.{Answering.{read_shown, unread}, Listed.reads_all, Placed.recipients_listed}}
use Rattle.hub_store.{proofs.Rows.Texts.recipients_of_incident_is, specs.inner.Shown.target_shown}
use Rattle.hub_store.proofs.find_recipients.read_recipients.Goals as goal

pub returns-in_err-recipients-clause-read : goal.returns-in_err-recipients-clause-read
returns-in_err-recipients-clause-read g c =
    read_shown g.S.Store recipients_of_incident_is (Int (pos c.args.incident) ∷ []) c.args.tx.now.conn.now c.ask.new.tx.conn.now c.in_ok-rows.rows.items _ c.from_residual-in_err-recipients.result c.ask.ensures.survives (λ clean. rw c.params-to_sql.ensures at (c.in_ok-rows.ensures.shown clean))
    (λ s holds sound answer. unread c.from_residual-in_err-recipients.result _ _ c.from_residual-in_err-recipients.ensures.1)

pub returns-clause-read : goal.returns-clause-read
returns-clause-read g c =
    read_shown g.S.Store recipients_of_incident_is (Int (pos c.args.incident) ∷ []) c.args.tx.now.conn.now c.ask.new.tx.conn.now c.in_ok-rows.rows.items _ (Ok c.new.result) c.ask.ensures.survives (λ clean. rw c.params-to_sql.ensures at (c.in_ok-rows.ensures.shown clean))
    (λ s holds sound answer. c.new.ensures ∙ reads_all target_shown (its_recipients c.args.incident s.recipients) c.in_ok-rows.rows.items (Ok c.in_ok-recipients.recipients) (recipients_listed (state g.S.Store c.args.tx.now.conn.now).now.trees s c.args.incident c.in_ok-rows.rows.items sound holds.means answer) (rw c.deref.ensures.value at c.in_ok-recipients.ensures))
