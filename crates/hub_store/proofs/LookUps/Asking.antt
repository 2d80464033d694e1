-- What a query that was prepared and showed its rows says, under the schema of the hub.
use Rattle.{std.proofs.Common.{◌≡◌, ℕ, List, false, ap, subst, ◌∙◌}, sqlite_value.specs.Order.Row, sqlite_sql.specs.Query.{Query, IsAnswer}}
use Rattle.{sqlite_schema.specs.declared.command.Command.TheVariants.Select, sqlite.proofs.Callers.{IsPlain, command_of, unchanged_then}}
use Rattle.{sqlite.specs.{Effect.Database, Held.{Held, state}, Listing.{understood, reads_listing}, State.IsUnchanged}, hub_store.proofs.Rows.Forms.program}
use Rattle.hub_store.{proofs.Rows.Outcomes.{shown_same, answered}, specs.{Keeps.Knows, Tables.hub_schema, inner.Queries.HasShown}}
use Rattle.sqlite_trees.specs.declared.store.Store as store

module _ {S : Type 0} (g : store.Ghosts S) (text : List ℕ) (params : Row) (old new : Held S) (rows : List Row) (plain : IsPlain (understood hub_schema text)) (it : HasShown g text params old new rows) where
  -- nothing has changed
  pub asked_same : Knows (state g old) → IsUnchanged (state g old) (state g new)
  asked_same knows =
      unchanged_then _ _ _ it.same (shown_same (state g it.mid) (state g new) text params rows plain (λ up. ap (λ (d : Database). d.schema) it.same.0.now_is ∙ knows it.same.0.was_open) it.shown)

  -- the rows are an answer
  pub asked_rows : (q : Query) (names : List (List ℕ)) → (state g old).now.schema ≡ hub_schema → command_of (understood hub_schema text) ≡ Select (program q) names → reads_listing hub_schema text ≡ false → IsAnswer q (state g old).now.trees params rows
  asked_rows q names known is unlisted =
      subst (λ (d : Database). IsAnswer q d.trees params rows) it.same.0.now_is
      (answered (state g it.mid) (state g new) text params rows q names (ap (λ (d : Database). d.schema) it.same.0.now_is ∙ known) is plain unlisted it.shown)
