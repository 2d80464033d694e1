use Rattle.{std.proofs.Common.{[], inl, refl, arith}, sqlite.specs.{Held.state, State.HasCleanDisk, Values.bound}, hub_store.proofs.Edits.Steps.kept_then}
use Rattle.hub_store.proofs.{Edits.Steps.{on_err_any, survives_itself, err_passed}, Rows.Outcomes.{unchanged_keeps, not_run_keeps, failed_query}}
use Rattle.hub_store.{proofs.Versions.QueryCauses.not_run_asked, specs.inner.Queries.HasRefused}
use Rattle.hub_store.proofs.query.ask.Goals as goal

pub returns-in_err-statement-clause-failed : goal.returns-in_err-statement-clause-failed
returns-in_err-statement-clause-failed g c clean = on_err_any _ _ (unchanged_keeps _ _ (not_run_keeps _ _ c.args.text.now [] _ (c.in_err-statement.ensures.err clean [])))

pub returns-in_err-rows-clause-failed : goal.returns-in_err-rows-clause-failed
returns-in_err-rows-clause-failed g c clean =
    let first : HasCleanDisk (state g.S.Store c.prepare.new.self.conn.now) = omega (arith, c.query_all_prepared.ensures.survives.clean) in
    on_err_any _ _ (kept_then _ _ _ (unchanged_keeps _ _ (inl (c.in_ok-statement.ensures.ok first).1)) (unchanged_keeps _ _ (failed_query _ _ _ _ _ (c.in_err-rows.ensures.err clean))))

pub returns-clause-shown : goal.returns-clause-shown
returns-clause-shown g c clean =
    let first : HasCleanDisk (state g.S.Store c.prepare.new.self.conn.now) = omega (arith, c.query_all_prepared.ensures.survives.clean) in
    let ready = c.in_ok-statement.ensures.ok first in
    record { mid = c.prepare.new.self.conn.now; same = ready.1; shown = rw ready.0 at (c.in_ok-rows.ensures.ok clean) }

pub returns-in_err-statement-clause-refused : goal.returns-in_err-statement-clause-refused
returns-in_err-statement-clause-refused g c clean =
    let old = c.args.tx.now.conn.now in
    let params = bound c.args.params.now in
    err_passed c.from_residual.result _ (HasRefused g.S.Store c.args.text.now params old c.prepare.new.self.conn.now) c.from_residual.ensures.1 (record {
      mid = old;
      survives = survives_itself (state g.S.Store old);
      now = refl;
      is_open = λ up. up;
      fails = not_run_asked _ _ c.args.text.now params _ (c.in_err-statement.ensures.err clean params);
    })

pub returns-in_err-rows-clause-refused : goal.returns-in_err-rows-clause-refused
returns-in_err-rows-clause-refused g c clean =
    let mid = c.prepare.new.self.conn.now in
    let first : HasCleanDisk (state g.S.Store mid) = omega (arith, c.query_all_prepared.ensures.survives.clean) in
    let ready = c.in_ok-statement.ensures.ok first in
    err_passed c.from_residual-in_err-rows.result _ (HasRefused g.S.Store c.args.text.now (bound c.args.params.now) c.args.tx.now.conn.now c.query_all_prepared.new.self.conn.now) c.from_residual-in_err-rows.ensures.1 (record {
      mid = mid;
      survives = c.prepare.ensures.survives;
      now = ready.1.0.now_is;
      is_open = λ _. ready.1.0.is_open;
      fails = rw ready.0 at (c.in_err-rows.ensures.err clean);
    })
