use Rattle.{std.proofs.Common.[], sqlite.specs.Held.state, hub_store.proofs.LookUps.{Adding.adds_all, AllListed.all_gates_listed, Answering.read_shown}}
use Rattle.hub_store.{proofs.Rows.TextsWhole.all_gates_is, specs.{Rows.gate_row, inner.Adds.gate_edit}}
use Rattle.hub_store.proofs.add_incidents.add_gates.Goals as goal

pub returns-clause-read : goal.returns-clause-read
returns-clause-read g c =
    read_shown g.S.Store all_gates_is [] c.args.tx.now.conn.now c.ask.new.tx.conn.now c.in_ok-shown.shown.items _ c.put_shown.result c.ask.ensures.survives c.in_ok-shown.ensures.shown
    (λ s holds sound answer. adds_all gate_row gate_edit s.gates c.in_ok-shown.shown.items c.args.rows c.put_shown.result (all_gates_listed (state g.S.Store c.args.tx.now.conn.now).now.trees s c.in_ok-shown.shown.items sound holds.means answer) (rw c.deref.ensures.value at c.put_shown.ensures))
