use Rattle.{std.proofs.Common.{pos, ◌∷◌, [], Ok, ◌∙◌}, sqlite_value.specs.declared.value.Value.TheVariants.Int, sqlite.specs.Held.state}
use Rattle.hub_store.proofs.{LookUps.{Answering.read_shown, ByNumber.community_found}, Rows.Texts.community_with_number_is}
use Rattle.hub_store.proofs.find_numbered.read_has_community.Goals as goal

pub returns-clause-read : goal.returns-clause-read
returns-clause-read g c =
    read_shown g.S.Store community_with_number_is (Int (pos c.args.number) ∷ []) c.args.tx.now.conn.now c.ask.new.tx.conn.now c.in_ok-rows.rows.items _ (Ok c.is_any.result) c.ask.ensures.survives (λ clean. rw c.params-to_sql.ensures at (c.in_ok-rows.ensures.shown clean))
    (λ s holds sound answer. (rw c.deref.ensures.value at c.is_any.ensures) ∙ community_found (state g.S.Store c.args.tx.now.conn.now).now.trees s c.args.number c.in_ok-rows.rows.items holds.means answer)
