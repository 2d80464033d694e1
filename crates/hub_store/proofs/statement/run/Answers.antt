use Rattle.{std.proofs.Common.{◌∙◌, [], false, refl, arith, rules}, sqlite.{proofs.InsideLemmas.not_run_inside, specs.{Held.state, State.HasCleanDisk}}}
use Rattle.{sqlite.specs.Values.bound, hub_store.proofs.{Edits.Steps.{survives_itself, err_passed}, Rows.Outcomes.{unchanged_keeps, not_run_keeps}}}
use Rattle.hub_store.specs.Keeps.{HasFailed}
use Rattle.hub_store.proofs.statement.run.Goals as goal

pub returns-clause-ran : goal.returns-clause-ran
returns-clause-ran g c clean inside =
    let first : HasCleanDisk (state g.S.Store c.prepare.new.self.conn.now) = omega (arith, c.execute_prepared.ensures.survives.clean) in
    let ready = c.in_ok-statement.ensures.ok first in
    record { mid = c.prepare.new.self.conn.now; same = ready.1; count = c.in_ok-execute_prepared.field-0; executes = rw ready.0 at (c.in_ok-execute_prepared.ensures.runs clean (ready.1.0.mode ∙ inside)).0 }

pub returns-in_err-statement-clause-goes : goal.returns-in_err-statement-clause-goes
returns-in_err-statement-clause-goes g c = record {
  kept = λ clean inside. unchanged_keeps _ _ (not_run_keeps _ _ c.args.text.now [] _ (c.in_err-statement.ensures.err clean []));
  inside = λ clean inside. search rules;
  survives = search rules;
}

pub returns-in_err-statement-clause-failed : goal.returns-in_err-statement-clause-failed
returns-in_err-statement-clause-failed g c clean inside =
    let old = c.args.tx.now.conn.now in
    let params = bound c.args.params.now in
    err_passed c.from_residual.result _ (HasFailed g.S.Store c.args.text.now params old c.prepare.new.self.conn.now) c.from_residual.ensures.1 (record {
      mid = old;
      survives = survives_itself (state g.S.Store old);
      now = refl;
      is_open = λ up. up;
      executes = not_run_inside _ _ 0 false c.args.text.now params _ (c.in_err-statement.ensures.err clean params);
    })

pub returns-in_err-execute_prepared-clause-failed : goal.returns-in_err-execute_prepared-clause-failed
returns-in_err-execute_prepared-clause-failed g c clean inside =
    let mid = c.prepare.new.self.conn.now in
    let first : HasCleanDisk (state g.S.Store mid) = omega (arith, c.execute_prepared.ensures.survives.clean) in
    let ready = c.in_ok-statement.ensures.ok first in
    err_passed c.from_residual-in_err-execute_prepared.result _ (HasFailed g.S.Store c.args.text.now (bound c.args.params.now) c.args.tx.now.conn.now c.execute_prepared.new.self.conn.now) c.from_residual-in_err-execute_prepared.ensures.1 (record {
      mid = mid;
      survives = c.prepare.ensures.survives;
      now = ready.1.0.now_is;
      is_open = λ _. ready.1.0.is_open;
      executes = rw ready.0 at (c.in_err-execute_prepared.ensures.runs clean (ready.1.0.mode ∙ inside));
    })
