use Rattle.{std.proofs.{Common.{◌≡◌, ◌≢◌, OnOk, IfErr, sym, subst, arith, rules}, lemmas.Result.IfErr-weaker}, sqlite_trees.specs.Tree.Trees}
use Rattle.sqlite.{proofs.{Callers.survives_begin, StateLemmas.survives_then}, specs.{Held.state, State.{HasCleanDisk, Survives}, Steps.FailsToCommit}}
use Rattle.{sqlite.specs.declared.error.Error.TheVariants.SqliteFailure, hub_state.specs.State.State, hub_store.proofs.Edits.Runs.{committed_made, ready}}
use Rattle.hub_store.proofs.{Edits.Steps.{on_ok, on_any, survives_on, err_passed}, Shelf.Left.trees_hold, Versions.Causes.{reason_after, commit_reason}}
use Rattle.hub_store.{proofs.Versions.Renewing.probe_fails, specs.{Content.{HasAs, CommitsState}, Failing.HasReason, Means.{TreesHold, Holds}}}
use Rattle.sqlite.specs.declared.error.ErrorCode.TheVariants as code
use Rattle.hub_store.proofs.migrate.renew.Goals as goal

pub returns-clause-made : goal.returns-clause-made
returns-clause-made g c clean older s has =
    let begun = c.transaction-tx.ensures.begun in
    let mid = c.go_steps.new.tx.conn.now in
    let end = c.commit.new.self.0 in
    let same : end ≡ c.conn-2-1.given.0 = search rules in
    let late : HasCleanDisk (state g.S.Store end) = search rules in
    let before : HasCleanDisk (state g.S.Store mid) = omega (arith, c.commit.ensures.survives.clean) in
    let edits = c.in_ok-go_steps.ensures.made older s has.sound in
    let first : HasCleanDisk (state g.S.Store c.probe.new.tx.conn.now) = omega (arith, edits.goes.survives.clean) in
    let at = ready g.S.Store c.args.conn.now (state g.S.Store c.probe.new.tx.conn.now) s has ((rw begun at c.in_ok-probe.ensures.same) first) in
    let made : Holds (state g.S.Store mid).now s = edits.made before at.1 at.0 in
    subst (λ h. OnOk c.commit.result (CommitsState (state g.S.Store h) s)) same
    (on_ok c.commit.result _ _ (λ ok. committed_made (state g.S.Store mid) (state g.S.Store end) _ made ok.1) (c.commit.ensures.ok late))

pub returns-clause-survives : goal.returns-clause-survives
returns-clause-survives g c older =
    let old = c.args.conn.now in
    let begun = c.transaction-tx.ensures.begun in
    let mid = c.go_steps.new.tx.conn.now in
    let end = c.commit.new.self.0 in
    let same : end ≡ c.conn-2-1.given.0 = search rules in
    let P = λ (left : Trees). (s : State) → HasAs c.args.version (state g.S.Store old) s → TreesHold left s in
    let inside = survives_on _ _ _ (rw begun at c.in_ok-probe.ensures.survives) c.go_steps.ensures.goes.survives in
    let whole = survives_then (state g.S.Store old) (state g.S.Store mid) (state g.S.Store end) (λ _. ⊥) (λ db. db ≡ (state g.S.Store mid).now.trees) P (λ _ db none. absurd none)
    (λ clean db is s has.
    let before : HasCleanDisk (state g.S.Store mid) = omega (arith, c.commit.ensures.survives.clean) in
    let edits = c.in_ok-go_steps.ensures.made older s has.sound in
    let first : HasCleanDisk (state g.S.Store c.probe.new.tx.conn.now) = omega (arith, edits.goes.survives.clean) in
    let at = ready g.S.Store old (state g.S.Store c.probe.new.tx.conn.now) s has ((rw begun at c.in_ok-probe.ensures.same) first) in
    let made : Holds (state g.S.Store mid).now s = edits.made before at.1 at.0 in
    subst (λ t. TreesHold t s) (sym is) (trees_hold (state g.S.Store mid).now s made))
    (survives_begin g.S.Store old (state g.S.Store mid) _ inside) c.commit.ensures.survives in
    subst (λ h. Survives (state g.S.Store old) (state g.S.Store h) P) same whole

pub returns-clause-asked : goal.returns-clause-asked
returns-clause-asked g c clean =
    let begun = c.transaction-tx.ensures.begun in
    let mid = c.go_steps.new.tx.conn.now in
    let end = c.commit.new.self.0 in
    let same : end ≡ c.conn-2-1.given.0 = search rules in
    let late : HasCleanDisk (state g.S.Store end) = search rules in
    let before : HasCleanDisk (state g.S.Store mid) = omega (arith, c.commit.ensures.survives.clean) in
    let first : HasCleanDisk (state g.S.Store c.probe.new.tx.conn.now) = omega (arith, c.go_steps.ensures.goes.survives.clean) in
    on_any c.commit.result _ ((rw begun at c.in_ok-probe.ensures.same) first).0

pub returns-in_err-probe-clause-cause : goal.returns-in_err-probe-clause-cause
returns-in_err-probe-clause-cause g c clean older s has taken =
    let old = c.args.conn.now in
    let begun = c.transaction-tx.ensures.begun in
    let probed = c.probe.new.tx.conn.now in
    let end = c.drop-tx.new.self.0 in
    let same : end ≡ c.conn-1.given.0 = search rules in
    let late : HasCleanDisk (state g.S.Store end) = subst (λ h. HasCleanDisk (state g.S.Store h)) (sym same) clean in
    let first : HasCleanDisk (state g.S.Store probed) = omega (arith, c.drop-tx.ensures.survives.clean) in
    let cause = (rw begun at c.in_err-probe.ensures.cause) first in
    subst (λ h. IfErr c.from_residual.result (λ e. e ≢ SqliteFailure code.OutOfMemory → HasReason (state g.S.Store old) (state g.S.Store h))) same
    (err_passed c.from_residual.result _ (λ e. e ≢ SqliteFailure code.OutOfMemory → HasReason (state g.S.Store old) (state g.S.Store end)) c.from_residual.ensures.1
    (λ other. probe_fails g.S.Store c.args.version old (state g.S.Store probed) (state g.S.Store end) s older has (λ there live. cause there live other) c.drop-tx.ensures.survives.counts))

pub returns-clause-cause : goal.returns-clause-cause
returns-clause-cause g c clean older s has taken =
    let old = c.args.conn.now in
    let begun = c.transaction-tx.ensures.begun in
    let probed = c.probe.new.tx.conn.now in
    let mid = c.go_steps.new.tx.conn.now in
    let end = c.commit.new.self.0 in
    let same : end ≡ c.conn-2-1.given.0 = search rules in
    let late : HasCleanDisk (state g.S.Store end) = search rules in
    let before : HasCleanDisk (state g.S.Store mid) = omega (arith, c.commit.ensures.survives.clean) in
    let goes = c.in_ok-go_steps.ensures.goes in
    let first : HasCleanDisk (state g.S.Store probed) = omega (arith, goes.survives.clean) in
    let answers = (rw begun at c.in_ok-probe.ensures.same) first in
    let at = ready g.S.Store old (state g.S.Store probed) s has answers in
    let going = goes.inside before at.1 in
    let inside = survives_begin g.S.Store old (state g.S.Store mid) _ (survives_on _ _ _ (rw begun at c.in_ok-probe.ensures.survives) goes.survives) in
    subst (λ h. IfErr c.commit.result (λ e. e ≢ SqliteFailure code.OutOfMemory → HasReason (state g.S.Store old) (state g.S.Store h))) same
    (IfErr-weaker c.commit.result (FailsToCommit (state g.S.Store mid) (state g.S.Store end)) (λ e. e ≢ SqliteFailure code.OutOfMemory → HasReason (state g.S.Store old) (state g.S.Store end))
    (λ e failed other. reason_after (state g.S.Store old) (state g.S.Store mid) (state g.S.Store end) _ inside (λ up. going.1 answers.1.0.is_open) (commit_reason (state g.S.Store mid) (state g.S.Store end) e going.0 other failed)) (c.commit.ensures.err late))
