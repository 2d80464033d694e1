use Rattle.{std.proofs.Common.{◌∷◌, [], Ok}, sqlite_value.specs.declared.value.Value.TheVariants.Text, sqlite.specs.Held.state}
use Rattle.hub_store.{proofs.{LookUps.{Answering.read_shown, AskedPairs.all_shown}, Rows.TextsWhole.all_pairs_is}, specs.inner.PairKinds.kind_name}
use Rattle.hub_store.proofs.add_pairs.ask_all.Goals as goal

pub returns-clause-read : goal.returns-clause-read
returns-clause-read g c =
    read_shown g.S.Store all_pairs_is (Text (kind_name c.args.kind) ∷ []) c.args.tx.now.conn.now c.ask.new.tx.conn.now c.in_ok-rows.rows.items _ (Ok c.in_ok-rows.rows) c.ask.ensures.survives
    (λ clean. rw (c.params-to_sql.ensures, c.name.ensures) at (c.in_ok-rows.ensures.shown clean)) (λ s holds sound answer. all_shown (state g.S.Store c.args.tx.now.conn.now).now.trees s c.args.kind sound holds.means c.in_ok-rows.rows.items answer)
