-- What a query and a statement leave, whatever they return.
use Rattle.{std.proofs.Common.{◌≡◌, ◌⊎◌, inl, inr, ℕ, List, false, Option, None, Some, Err, IsTrue, sym, ap, subst, ◌∙◌}, sqlite_value.specs.Order.Row}
use Rattle.{sqlite_value.specs.declared.value.Value.TheVariants.Null, sqlite_schema.specs.declared.command.{Command.TheVariants.Select, Returning.Returning}}
use Rattle.{sqlite_sql.specs.Query.{Query, IsAnswer}, sqlite.{proofs.Callers.{IsPlain, command_of, reads_as}, specs.Listing.{understood, reads_listing}}}
use Rattle.sqlite.specs.State.{State, IsUnchanged, IsRolledBack, KeepsCommit, FailsToQuery, FailsToShow, RunsCommand, IsNotRun, IsTooLate, Shown, ShowsRows}
use Rattle.{sqlite.specs.declared.error.Error.Error, sqlite_resolve.specs.declared.compiled.Compiled.Compiled, hub_store.proofs.Rows.Forms.program}
use Rattle.hub_store.{proofs.Rows.Statements.overlaid, specs.{Keeps.Knows, Tables.hub_schema}}

module _ (old new : State) where
  pub unchanged_keeps : IsUnchanged old new ⊎ IsRolledBack old new → KeepsCommit old new
  unchanged_keeps (inl h) = record { was_open = λ _. h.0.was_open; committed = λ _. h.0.committed_is }
  unchanged_keeps (inr h) = record { was_open = h.was_open; committed = λ up. (h.undone up).1 }

  refused_keeps : (sql : List ℕ) (c : Compiled) (params : Row) (e : Error) → RunsCommand old new sql c params (Err e) → IsUnchanged old new ⊎ IsRolledBack old new
  refused_keeps sql c params e (inl h) = inl h.1
  refused_keeps sql c params e (inr h) = inr h.3

  pub not_run_keeps : (sql : List ℕ) (params : Row) (e : Error) → IsNotRun old new sql params e → IsUnchanged old new ⊎ IsRolledBack old new
  unfolding IsNotRun
  not_run_keeps sql params e (inl h) = inl h.1
  not_run_keeps sql params e (inr h) = inr h.3

  show_keeps : (sql : List ℕ) (c : Compiled) (params : Row) (e : Error) (r : Option Returning) → FailsToShow old new sql c params e r → IsUnchanged old new ⊎ IsRolledBack old new
  show_keeps sql c params e None h = inl h.3
  show_keeps sql c params e (Some what) h = refused_keeps sql c params e h

  pub failed_query : (sql : List ℕ) (params : Row) (e : Error) → FailsToQuery sql params old new e ⊎ IsTooLate sql params old new e → IsUnchanged old new ⊎ IsRolledBack old new
  unfolding FailsToQuery
  failed_query sql params e (inl (inl h)) = not_run_keeps sql params e h
  failed_query sql params e (inl (inr h)) = show_keeps sql h.0 _ e h.0.returning h.2
  failed_query sql params e (inr h) = inl h.5

  shown_open : (sql : List ℕ) (c : Compiled) (params : Row) (rows : List Row) (r : Option Returning) → ShowsRows old new sql c params rows r → IsTrue old.is_open
  shown_open sql c params rows None h = h.3.0.was_open
  shown_open sql c params rows (Some what) h = h.1.shown.was_open

  pub plain_shown : (sql : List ℕ) (c : Compiled) (params : Row) (rows : List Row) (r : Option Returning) → r ≡ None → ShowsRows old new sql c params rows r → IsUnchanged old new
  plain_shown sql c params rows None e h = h.3
  plain_shown sql c params rows (Some what) e h = absurd cc

  -- a query whose text is plain under the schema changes nothing
  pub shown_same : (sql : List ℕ) (params : Row) (rows : List Row) → IsPlain (understood hub_schema sql) → Knows old → Shown sql params old new rows → IsUnchanged old new
  unfolding Shown
  shown_same sql params rows plain knows h =
      let up = shown_open sql h.0 _ rows h.0.returning h.2 in
      let known = sym h.1.is ∙ ap (λ s. understood s sql) (knows up) in
      plain_shown sql h.0 _ rows h.0.returning (subst IsPlain (sym known) plain).0 h.2

  pub shown_up : (sql : List ℕ) (params : Row) (rows : List Row) → Shown sql params old new rows → IsTrue old.is_open
  unfolding Shown
  shown_up sql params rows h = shown_open sql h.0 _ rows h.0.returning h.2

  pub answered : (sql : List ℕ) (params : Row) (rows : List Row) (q : Query) (names : List (List ℕ)) → old.now.schema ≡ hub_schema → command_of (understood hub_schema sql) ≡ Select (program q) names → IsPlain (understood hub_schema sql)
      → reads_listing hub_schema sql ≡ false → Shown sql params old new rows → IsAnswer q old.now.trees params rows
  answered sql params rows q names has is plain unlisted h =
      subst (λ t. IsAnswer q t params rows) (overlaid old.now.trees) ((reads_as sql params old new hub_schema has (Select (program q) names) is plain unlisted rows h).answer Null)
