use Rattle.{std.proofs.Common.{pos, ◌∷◌, [], Ok}, sqlite_value.specs.declared.value.Value.TheVariants.{Int, Text}, sqlite.specs.Held.state}
use Rattle.hub_store.{proofs.{LookUps.{Answering.read_shown, AskedPairs.between_shown}, Rows.Texts.pair_with_both_is}, specs.inner.PairKinds.kind_name}
use Rattle.hub_store.proofs.ask_pairs.ask_between.Goals as goal

pub returns-clause-read : goal.returns-clause-read
returns-clause-read g c =
    read_shown g.S.Store pair_with_both_is (Text (kind_name c.args.kind) ∷ Int (pos c.args.a) ∷ Int (pos c.args.b) ∷ []) c.args.tx.now.conn.now c.ask.new.tx.conn.now c.in_ok-rows.rows.items _ (Ok c.in_ok-rows.rows) c.ask.ensures.survives
    (λ clean. rw (c.params-to_sql.ensures, c.params-to_sql-2.ensures, c.params-to_sql-3.ensures, c.name.ensures) at (c.in_ok-rows.ensures.shown clean)) (λ s holds sound answer. between_shown (state g.S.Store c.args.tx.now.conn.now).now.trees s c.args.kind sound holds.means c.args.a c.args.b c.in_ok-rows.rows.items answer)
