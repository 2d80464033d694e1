use Rattle.{std.proofs.Common.{pos, ◌∷◌, [], Ok, ◌∙◌}, sqlite_value.specs.declared.value.Value.TheVariants.Int, sqlite.specs.Held.state}
use Rattle.{hub_state.specs.Reads.its_permissions, hub_store.proofs.LookUps.{Answering.{read_shown, unread}, Listed.reads_all, Placed.permissions_listed}}
use Rattle.hub_store.{proofs.Rows.Texts.permissions_of_incident_is, specs.inner.Shown.permission_shown}
use Rattle.hub_store.proofs.find_permissions.read_permissions.Goals as goal

pub returns-in_err-permissions-clause-read : goal.returns-in_err-permissions-clause-read
returns-in_err-permissions-clause-read g c =
    read_shown g.S.Store permissions_of_incident_is (Int (pos c.args.incident) ∷ []) c.args.tx.now.conn.now c.ask.new.tx.conn.now c.in_ok-rows.rows.items _ c.from_residual-in_err-permissions.result c.ask.ensures.survives (λ clean. rw c.params-to_sql.ensures at (c.in_ok-rows.ensures.shown clean))
    (λ s holds sound answer. unread c.from_residual-in_err-permissions.result _ _ c.from_residual-in_err-permissions.ensures.1)

pub returns-clause-read : goal.returns-clause-read
returns-clause-read g c =
    read_shown g.S.Store permissions_of_incident_is (Int (pos c.args.incident) ∷ []) c.args.tx.now.conn.now c.ask.new.tx.conn.now c.in_ok-rows.rows.items _ (Ok c.new.result) c.ask.ensures.survives (λ clean. rw c.params-to_sql.ensures at (c.in_ok-rows.ensures.shown clean))
    (λ s holds sound answer. c.new.ensures ∙ reads_all permission_shown (its_permissions c.args.incident s.permissions) c.in_ok-rows.rows.items (Ok c.in_ok-permissions.permissions) (permissions_listed (state g.S.Store c.args.tx.now.conn.now).now.trees s c.args.incident c.in_ok-rows.rows.items sound holds.means answer) (rw c.deref.ensures.value at c.in_ok-permissions.ensures))
