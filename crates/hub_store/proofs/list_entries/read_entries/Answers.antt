use Rattle.{std.proofs.Common.{pos, ◌∷◌, []}, sqlite_value.specs.declared.value.Value.TheVariants.Int, sqlite.specs.Held.state}
use Rattle.{hub_state.specs.Reads.entries_after, hub_store.proofs.LookUps.{Answering.read_shown, Incidents.entries_listed, Listed.reads_all}}
use Rattle.hub_store.{proofs.Rows.Texts.incidents_above_is, specs.inner.Shown.entry_shown}
use Rattle.hub_store.proofs.list_entries.read_entries.Goals as goal

pub returns-clause-read : goal.returns-clause-read
returns-clause-read g c =
    read_shown g.S.Store incidents_above_is (Int (pos c.args.number) ∷ Int (pos c.args.most) ∷ []) c.args.tx.now.conn.now c.ask.new.tx.conn.now c.in_ok-rows.rows.items _ c.all.result c.ask.ensures.survives
    (λ clean. rw (c.params-to_sql.ensures, c.params-to_sql-2.ensures) at (c.in_ok-rows.ensures.shown clean))
    (λ s holds sound answer. reads_all entry_shown (entries_after c.args.number c.args.most s) c.in_ok-rows.rows.items c.all.result (entries_listed (state g.S.Store c.args.tx.now.conn.now).now.trees s c.args.number c.args.most c.in_ok-rows.rows.items sound holds.means answer) (rw c.deref.ensures.value at c.all.ensures))
