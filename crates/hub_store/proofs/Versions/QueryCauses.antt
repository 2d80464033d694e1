-- Why a query in a transaction fails that SQL understands.
use Rattle.{std.proofs.Common.{◌≡◌, ◌≢◌, ◌⊎◌, inl, inr, ℕ, List, append-nil, false, IsSome, None, ap, subst, ◌∙◌}, sqlite_value.specs.Order.Row}
use Rattle.{sqlite_sql.specs.Query.Query, sqlite_schema.specs.declared.{command.Command.TheVariants.Select, schema.Schema.Schema}}
use Rattle.{sqlite_resolve.specs.declared.compiled.Compiled.Compiled, sqlite.{proofs.Callers.command_of, specs.{Clock.timed, Effect.RefusesQuery}}}
use Rattle.sqlite.specs.{Effect.RefusesToRead, Listing.{understood, reads_listing, IsSourceOf}, State.{State, IsNotRun, IsStatement, FailsToQuery, FailsToShow}}
use Rattle.{sqlite.specs.{State.IsTooLate, declared.error.Error.{Error, TheVariants.SqliteFailure}}, hub_store.proofs.Rows.Forms.program}
use Rattle.hub_store.{proofs.Versions.Causes.{IsWhole, failed_only, is_statement, known, whole_of}, specs.Failing.HasReason}
use Rattle.sqlite.specs.declared.error.ErrorCode.TheVariants as code

module _ (sql : List ℕ) (params : Row) (old new : State) (schema : Schema) (has : old.now.schema ≡ schema) (q : Query) (heads : List (List ℕ)) (is : command_of (understood schema sql) ≡ Select (program q) heads)
    (whole : IsWhole sql params (understood schema sql)) (unlisted : reads_listing schema sql ≡ false) (e : Error) where
  refused : (c : Compiled) (it : IsStatement old sql params c) → FailsToShow old new sql c (timed params c.formats it.now) e c.returning → RefusesQuery old.step_limit old.now (program q) params e
  refused c it h =
      let all = whole_of sql params old schema has whole c it.is in
      let h : FailsToShow old new sql c params e None = rw (all.0, all.1, append-nil params) at h in
      let db : h.0 ≡ old.now = subst (λ b. IsSourceOf b old.now h.0) (ap (λ s. reads_listing s sql) has ∙ unlisted) h.1 in
      subst (λ d. RefusesQuery old.step_limit d (program q) params e) db (subst (λ k. RefusesToRead old.step_limit k h.0 params e) (ap command_of (known sql params old schema has whole c it.is) ∙ is) h.2)

  pub query_fails : (RefusesQuery old.step_limit old.now (program q) params e → IsSome old.step_limit) → e ≢ SqliteFailure code.OutOfMemory → FailsToQuery sql params old new e ⊎ IsTooLate sql params old new e → HasReason old new
  unfolding FailsToQuery IsNotRun
  query_fails limited other (inl (inl (inl none))) = absurd (is_statement sql params old schema has whole e none.0)
  query_fails limited other (inl (inl (inr failed))) = failed_only old new e other failed
  query_fails limited other (inl (inr run)) = inr (inr (limited (refused run.0 run.1 run.2)))
  query_fails limited other (inr late) =
      absurd (let some = subst IsSome (whole_of sql params old schema has whole late.0 late.1.is).0 late.2 in cc)

-- a text that could not be prepared
pub not_run_asked : (old new : State) (sql : List ℕ) (params : Row) (e : Error) → IsNotRun old new sql params e → FailsToQuery sql params old new e ⊎ IsTooLate sql params old new e
unfolding FailsToQuery
not_run_asked old new sql params e h = inl (inl h)
