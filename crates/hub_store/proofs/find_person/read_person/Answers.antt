use Rattle.{std.proofs.Common.{◌∷◌, []}, sqlite_value.specs.declared.value.Value.TheVariants.Blob, sqlite.specs.Held.state, hub_state.specs.Reads.person_by_key}
use Rattle.hub_store.proofs.{LookUps.{Answering.read_shown, Finding.reads_first, Persons.person_found}, Rows.Texts.person_with_key_is}
use Rattle.hub_store.specs.inner.Shown.{person_shown}
use Rattle.hub_store.proofs.find_person.read_person.Goals as goal

pub returns-clause-read : goal.returns-clause-read
returns-clause-read g c =
    read_shown g.S.Store person_with_key_is (Blob c.args.key.now ∷ []) c.args.tx.now.conn.now c.ask.new.tx.conn.now c.in_ok-rows.rows.items _ c.first.result c.ask.ensures.survives (λ clean. rw (c.params-to_sql.ensures, c.as_slice.ensures) at (c.in_ok-rows.ensures.shown clean))
    (λ s holds sound answer. reads_first person_shown (person_by_key c.args.key.now s) c.in_ok-rows.rows.items c.first.result (person_found (state g.S.Store c.args.tx.now.conn.now).now.trees s c.args.key.now _ sound holds.means answer) (rw c.deref.ensures.value at c.first.ensures))
