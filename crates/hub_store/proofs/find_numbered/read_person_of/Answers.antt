use Rattle.{std.proofs.Common.{pos, ◌∷◌, []}, sqlite_value.specs.declared.value.Value.TheVariants.Int, sqlite.specs.Held.state, circle.specs.Reads.person_of}
use Rattle.hub_store.proofs.{LookUps.{Answering.read_shown, ByNumber.person_numbered_found, Finding.reads_first}, Rows.Texts.person_with_number_is}
use Rattle.hub_store.specs.inner.Shown.{person_shown}
use Rattle.hub_store.proofs.find_numbered.read_person_of.Goals as goal

pub returns-clause-read : goal.returns-clause-read
returns-clause-read g c =
    read_shown g.S.Store person_with_number_is (Int (pos c.args.number) ∷ []) c.args.tx.now.conn.now c.ask.new.tx.conn.now c.in_ok-rows.rows.items _ c.first.result c.ask.ensures.survives (λ clean. rw c.params-to_sql.ensures at (c.in_ok-rows.ensures.shown clean))
    (λ s holds sound answer. reads_first person_shown (person_of c.args.number s.directory) c.in_ok-rows.rows.items c.first.result (person_numbered_found (state g.S.Store c.args.tx.now.conn.now).now.trees s c.args.number c.in_ok-rows.rows.items sound holds.means answer) (rw c.deref.ensures.value at c.first.ensures))
