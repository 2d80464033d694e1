use Rattle.{std.proofs.Common.[], sqlite.specs.Held.state, hub_store.proofs.LookUps.{Adding.adds_all, AllListed.accounts_listed, Answering.read_shown}}
use Rattle.hub_store.{proofs.Rows.TextsWhole.all_persons_is, specs.inner.Adds.{account_shown, account_edit}}
use Rattle.hub_store.proofs.add_numbered.add_accounts.Goals as goal

pub returns-clause-read : goal.returns-clause-read
returns-clause-read g c =
    read_shown g.S.Store all_persons_is [] c.args.tx.now.conn.now c.ask.new.tx.conn.now c.in_ok-shown.shown.items _ c.put_shown.result c.ask.ensures.survives c.in_ok-shown.ensures.shown
    (λ s holds sound answer. adds_all account_shown account_edit s.directory.accounts c.in_ok-shown.shown.items c.args.rows c.put_shown.result (accounts_listed (state g.S.Store c.args.tx.now.conn.now).now.trees s c.in_ok-shown.shown.items sound holds.means answer) (rw c.deref.ensures.value at c.put_shown.ensures))
