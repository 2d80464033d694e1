use Rattle.{std.proofs.Common.{◌≡◌, suc, length, false}, hub_store.{proofs.LookUps.Streaming.IsFeeding, specs.inner.FeedsRows.HasTaken}}
use Rattle.hub_store.proofs.feed_rows.feed_rows.Given as goal

abbrev pub invariant-rows : goal.invariant-rows
invariant-rows g l =
    (l.rows.conn.ghost_name ≡ l.initial.rows.conn.ghost_name) × (l.rows.conn.now.in_transaction ≡ false) × IsFeeding g.S.Store l.incident l.fn.conn l.rows.conn.now l.pass.fed.lines × HasTaken l.fn.pass l.pass × (l.place ≡ suc (length l.pass.fed.lines))
