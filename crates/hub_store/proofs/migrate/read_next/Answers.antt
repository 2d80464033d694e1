use Rattle.hub_store.proofs.Edits.{Inside.goes_asked, Steps.{err_passed, unheld_only, failed_goes, goes_passed, makes_passed}}
use Rattle.hub_store.proofs.Versions.NextIncident.{next_incident, next_keeps, next_found, next_fails, next_reads}
use Rattle.hub_store.proofs.migrate.read_next.Goals as goal

pub returns-in_err-rows-clause-goes : goal.returns-in_err-rows-clause-goes
returns-in_err-rows-clause-goes g c = goes_passed c.from_residual.ensures.1 (failed_goes c.in_err-rows.ensures.failed c.ask.ensures.survives)

pub returns-in_err-rows-clause-same : goal.returns-in_err-rows-clause-same
returns-in_err-rows-clause-same g c s items = makes_passed c.from_residual.ensures.1 (failed_goes c.in_err-rows.ensures.failed c.ask.ensures.survives)

pub returns-clause-goes : goal.returns-clause-goes
returns-clause-goes g c = goes_asked g.S.Store next_incident _ c.args.tx.now.conn.now c.ask.new.tx.conn.now c.in_ok-rows.rows.items c.first_incident.result c.ask.ensures.survives c.in_ok-rows.ensures.shown

pub returns-clause-same : goal.returns-clause-same
returns-clause-same g c s items = next_keeps g.S.Store c.args.number c.args.tx.now.conn.now c.ask.new.tx.conn.now c.in_ok-rows.rows.items c.first_incident.result s items c.ask.ensures.survives (λ clean. rw c.params-to_sql.ensures at (c.in_ok-rows.ensures.shown clean))

pub returns-clause-read : goal.returns-clause-read
returns-clause-read g c clean s items has holds =
    next_found g.S.Store c.args.number c.args.tx.now.conn.now c.ask.new.tx.conn.now c.in_ok-rows.rows.items c.first_incident.result s items (rw c.params-to_sql.ensures at (c.in_ok-rows.ensures.shown clean)) has holds (rw c.deref.ensures.value at c.first_incident.ensures.value)

pub returns-in_err-rows-clause-cause : goal.returns-in_err-rows-clause-cause
returns-in_err-rows-clause-cause g c s items has taken = record {
  cause = λ clean inside before.
      let refused = rw c.params-to_sql.ensures at (c.in_err-rows.ensures.refused clean) in
      err_passed c.from_residual.result _ _ c.from_residual.ensures.1 (λ other. next_fails g.S.Store c.args.number c.args.tx.now.conn.now c.ask.new.tx.conn.now _ s items refused before other);
}

pub returns-clause-cause : goal.returns-clause-cause
returns-clause-cause g c s items has taken = record {
  cause = λ clean inside before.
      let shown = rw c.params-to_sql.ensures at (c.in_ok-rows.ensures.shown clean) in
      unheld_only _ c.first_incident.result ((rw c.deref.ensures.value at c.first_incident.ensures.cause) (next_reads g.S.Store c.args.number c.args.tx.now.conn.now c.ask.new.tx.conn.now c.in_ok-rows.rows.items s items shown has taken before));
}
