use Rattle.{std.proofs.Common.{pos, ◌∷◌, []}, sqlite_value.specs.declared.value.Value.TheVariants.Int, sqlite.specs.Held.state, circle.specs.Reads.community_of}
use Rattle.hub_store.proofs.{LookUps.{Answering.read_shown, ByNumber.community_and_name_found, Finding.reads_first}, Rows.Texts.community_and_name_is}
use Rattle.hub_store.specs.inner.Adds.{community_shown}
use Rattle.hub_store.proofs.find_numbered.read_community.Goals as goal

pub returns-clause-read : goal.returns-clause-read
returns-clause-read g c =
    read_shown g.S.Store community_and_name_is (Int (pos c.args.number) ∷ []) c.args.tx.now.conn.now c.ask.new.tx.conn.now c.in_ok-rows.rows.items _
    c.first.result c.ask.ensures.survives
    (λ clean. rw c.params-to_sql.ensures at (c.in_ok-rows.ensures.shown clean))
    (λ s holds sound answer. reads_first community_shown (community_of c.args.number s.directory) c.in_ok-rows.rows.items c.first.result
    (community_and_name_found (state g.S.Store c.args.tx.now.conn.now).now.trees s c.args.number c.in_ok-rows.rows.items sound holds.means answer)
    (rw c.deref.ensures.value at c.first.ensures))
