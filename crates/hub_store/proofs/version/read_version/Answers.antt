use Rattle.{std.proofs.Common.inl, sqlite.specs.Held.state, hub_store.proofs.Rows.Outcomes.{unchanged_keeps, failed_query, shown_up}}
use Rattle.hub_store.{proofs.Versions.AnyVersion.{versions_same, once_told, told_by_rows, unread_reason}, specs.Versions.version_text}
use Rattle.hub_store.proofs.version.read_version.Goals as goal

pub returns-in-Ok-clause-kept : goal.returns-in-Ok-clause-kept
returns-in-Ok-clause-kept g c clean = unchanged_keeps _ _ (inl (versions_same _ _ _ (c.in-Ok.ensures.ok clean)))

pub returns-in-Ok-clause-exact : goal.returns-in-Ok-clause-exact
returns-in-Ok-clause-exact g c clean is =
    told_by_rows (state g.S.Store c.args.tx.now.conn.now) (state g.S.Store c.query_all.new.self.conn.now) c.args.has_column c.in-Ok.rows.items c.only_number.result c.if-not-has_column.false is (c.in-Ok.ensures.ok clean) (rw c.deref.ensures.value at c.only_number.ensures.value)

pub returns-in-Ok-clause-asked : goal.returns-in-Ok-clause-asked
returns-in-Ok-clause-asked g c clean = once_told _ c.only_number.result (shown_up _ _ version_text _ _ (c.in-Ok.ensures.ok clean))

pub returns-in-Err-clause-kept : goal.returns-in-Err-clause-kept
returns-in-Err-clause-kept g c clean = unchanged_keeps _ _ (failed_query _ _ _ _ _ (c.in-Err.ensures.err clean))

pub returns-in-Err-clause-cause : goal.returns-in-Err-clause-cause
returns-in-Err-clause-cause g c clean is live other = unread_reason _ _ c.args.has_column _ c.if-not-has_column.false is live other (c.in-Err.ensures.err clean)
