use Rattle.{std.proofs.Common.{inl, true, refl, sym}, hub_store.proofs.{Edits.Steps.err_passed, Rows.Outcomes.{unchanged_keeps, failed_query, shown_up}}}
use Rattle.hub_store.{proofs.Versions.AnyVersion.{versions_same, unread_reason}, specs.Versions.version_text}
use Rattle.hub_store.proofs.query.probe.Goals as goal

pub returns-in_err-query_all-clause-kept : goal.returns-in_err-query_all-clause-kept
returns-in_err-query_all-clause-kept g c clean = unchanged_keeps _ _ (failed_query _ _ _ _ _ (c.in_err-query_all.ensures.err clean))

pub returns-clause-same : goal.returns-clause-same
returns-clause-same g c clean = let shown = c.in_ok-query_all.ensures.ok clean in (shown_up _ _ version_text _ _ shown, versions_same _ _ _ shown)

pub returns-clause-kept : goal.returns-clause-kept
returns-clause-kept g c clean = unchanged_keeps _ _ (inl (versions_same _ _ _ (c.in_ok-query_all.ensures.ok clean)))

pub returns-in_err-query_all-clause-cause : goal.returns-in_err-query_all-clause-cause
returns-in_err-query_all-clause-cause g c clean there live =
    err_passed c.from_residual.result _ _ c.from_residual.ensures.1 (λ other. unread_reason _ _ true _ refl (sym there) live other (c.in_err-query_all.ensures.err clean))
