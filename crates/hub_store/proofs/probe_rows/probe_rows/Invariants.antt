use Rattle.{std.proofs.Common.{◌≡◌, suc, length, false}, hub_store.{proofs.LookUps.Streaming.IsFeeding, specs.inner.ProbesRows.HasProbed}}
use Rattle.hub_store.proofs.probe_rows.probe_rows.Given as goal

abbrev pub invariant-rows : goal.invariant-rows
invariant-rows g l =
    (l.rows.conn.ghost_name ≡ l.initial.rows.conn.ghost_name) × (l.rows.conn.now.in_transaction ≡ false) × IsFeeding g.S.Store l.incident l.fn.conn l.rows.conn.now l.probe.fed.lines × HasProbed l.fn.probe l.probe × (l.place ≡ suc (length l.probe.fed.lines))
