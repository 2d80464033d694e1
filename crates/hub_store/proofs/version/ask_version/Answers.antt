use Rattle.{std.proofs.Common.{◌≡◌, ◌≢◌, ◌∙◌, IfErr, is_some, ap, sym, subst, arith, rules}, sqlite.specs.{Held.state, State.HasCleanDisk}}
use Rattle.{sqlite.specs.declared.error.Error.TheVariants.SqliteFailure, hub_store.{proofs.Versions.AnyVersion.later_reason, specs.Failing.HasReason}}
use Rattle.hub_store.specs.Versions.{version_column}
use Rattle.sqlite.specs.declared.error.ErrorCode.TheVariants as code
use Rattle.hub_store.proofs.version.ask_version.Goals as goal

pub returns-clause-cause : goal.returns-clause-cause
returns-clause-cause g c clean =
    let old = state g.S.Store c.args.conn.now in
    let mid = c.read_version-found.new.tx.conn.now in
    let end = c.rollback.new.self.0 in
    let same : end ≡ c.conn-1.given.0 = search rules in
    let late : HasCleanDisk (state g.S.Store end) = subst (λ h. HasCleanDisk (state g.S.Store h)) (sym same) clean in
    let before : HasCleanDisk (state g.S.Store mid) = omega (arith, c.rollback.ensures.survives.clean) in
    let is = c.has_version_column-has_column.ensures ∙ ap (λ s. is_some (version_column s)) c.schema.ensures.value in
    let cause = (rw c.transaction-tx.ensures.begun at c.read_version-found.ensures.cause) before is c.schema.ensures.live in
    subst (λ h. IfErr c.read_version-found.result (λ e. e ≢ SqliteFailure code.OutOfMemory → HasReason old (state g.S.Store h))) same
    (later_reason old (state g.S.Store mid) (state g.S.Store end).faults c.read_version-found.result c.rollback.ensures.survives.counts cause)
