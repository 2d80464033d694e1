-- A query under a schema that is known: what it shows and leaves, and why it fails.
use Rattle.std.proofs.Common.{◌≡◌, ◌≢◌, inl, inr, ℕ, List, [], ◌∷◌, map, filter, true, false, IsSome, Option, Ok, refl, sym, ap, subst, ◌∙◌}
use Rattle.{std.{proofs.lemmas.Bool.true≢false, specs.List.Sorted.IsPermutation}, sqlite_sql.specs.{Program.ProgramOverflows, Query.{Query, IsAnswer}}}
use Rattle.{sqlite_sql.specs.Term.Term, sqlite_value.specs.{Order.Row, declared.value.Value.TheVariants.Null}, sqlite_trees.specs.Tree.Trees}
use Rattle.{sqlite_schema.specs.declared.{command.Command.TheVariants.Select, schema.Schema.Schema}, sqlite_typing.specs.Types.accepts_program}
use Rattle.sqlite.{proofs.Callers.{IsPlain, command_of, reads_as, unchanged_then}, specs.{Effect.{Database, RefusesQuery}, Held.{Held, state}}}
use Rattle.sqlite.specs.{Listing.{understood, reads_listing}, State.{IsUnchanged, Shown}, declared.error.Error.{Error, TheVariants.SqliteFailure}}
use Rattle.hub_store.proofs.{LookUps.Finding.seen_through, Rows.{Forms.{one_table, program}, Outcomes.plain_shown, Statements.{keeps, shows, selected}}}
use Rattle.hub_store.{proofs.{Rows.Statements.overlaid, Versions.{Causes.{IsWhole, plain_of, reason_after}, QueryCauses.query_fails}}, specs.Failing.HasReason}
use Rattle.hub_store.specs.{Holdings.{Holding, IsHeld}, inner.{Queries.{HasShown, HasRefused}, Remakes.ShowsOf}}
use Rattle.sqlite_trees.specs.declared.store.Store as store
use Rattle.sqlite.specs.declared.error.ErrorCode.TheVariants as code

-- For a schema and a text that are written out each field but the last is `refl`.
pub record IsReading (schema : Schema) (text : List ℕ) (params : Row) (query : Query) (heads : List (List ℕ)) : Type 0 where
  pub command : command_of (understood schema text) ≡ Select (program query) heads
  pub whole : IsWhole text params (understood schema text)
  pub unlisted : reads_listing schema text ≡ false
  pub accepted : accepts_program schema [] query params ≡ true
  pub exact : (db : Trees) → ¬ ProgramOverflows db params [] [] query

module _ (schema : Schema) (text : List ℕ) (params : Row) (query : Query) (heads : List (List ℕ)) (it : IsReading schema text params query heads) {S : Type 0} (g : store.Ghosts S) (old new : Held S) (known : (state g old).now.schema ≡ schema) where
  module _ (found : List Row) (has : HasShown g text params old new found) where
    still_known : (state g has.mid).now.schema ≡ schema
    still_known = subst (λ (d : Database). d.schema ≡ schema) (sym has.same.0.now_is) known

    plain : IsPlain (understood schema text)
    plain = plain_of text params (understood schema text) it.whole

    -- nothing has changed
    pub read_same : IsUnchanged (state g old) (state g new)
    unfolding Shown
    read_same =
        let h = has.shown in
        let is : understood schema text ≡ Ok h.0 = subst (λ k. understood k text ≡ Ok h.0) still_known h.1.is in
        unchanged_then _ _ _ has.same (plain_shown (state g has.mid) (state g new) text h.0 _ found h.0.returning (subst IsPlain is plain).0 h.2)

    -- the rows are an answer
    pub read_answer : IsAnswer query (state g old).now.trees params found
    read_answer =
        subst (λ (d : Database). IsAnswer query d.trees params found) has.same.0.now_is
        (subst (λ t. IsAnswer query t params found) (overlaid (state g has.mid).now.trees) ((reads_as text params (state g has.mid) (state g new) schema still_known (Select (program query) heads) it.command plain it.unlisted found has.shown).answer Null))

  unrefused : (limit : Option ℕ) (db : Database) (e : Error) → db.schema ≡ schema → RefusesQuery limit db (program query) params e → IsSome limit
  unrefused limit db e known (inl h) = absurd (true≢false (sym it.accepted ∙ subst (λ k. accepts_program k [] query params ≡ false) known h.1))
  unrefused limit db e known (inr (inl (is, over))) = absurd (it.exact db.trees over)
  unrefused limit db e known (inr (inr h)) = h.1

  -- it fails only for a limit on steps
  pub read_fails : (e : Error) → HasRefused g text params old new e → e ≢ SqliteFailure code.OutOfMemory → HasReason (state g old) (state g new)
  read_fails e has other =
      let at : (state g has.mid).now.schema ≡ schema = ap (λ (d : Database). d.schema) has.now ∙ known in
      reason_after (state g old) (state g has.mid) (state g new) _ has.survives has.is_open
      (query_fails text params (state g has.mid) (state g new) schema at query heads it.command it.whole it.unlisted e (unrefused (state g has.mid).step_limit (state g has.mid).now e at) other has.fails)

-- ---- all rows of one table

all_pass : (rows : List Row) → filter (λ r. true) rows ≡ rows
all_pass [] = refl
all_pass (r ∷ rows) = ap (λ l. r ∷ l) (all_pass rows)

-- by what is seen of the rows
pub reads_rows : (schema : Schema) (text : List ℕ) (tree : ℕ) (project : List Term) (heads : List (List ℕ)) → IsReading schema text [] (one_table tree [] project) heads
    → {S : Type 0} (g : store.Ghosts S) (Before : Database → Type 0) → ((db : Database) → Before db → db.schema ≡ schema) → (h : Holding) (shown : Row → Row) (rows : List Row) → h.tree ≡ tree → ((r : Row) → shows project [] r ≡ shown (h.seen r)) → map shown h.rows ≡ rows
    → ((db : Database) → Before db → IsHeld db.trees h) → ShowsOf g text Before rows
reads_rows schema text tree project heads it g Before known h shown rows at past are holds old new found has before = (
  read_same schema text [] (one_table tree [] project) heads it g old new (known _ before) found has,
  let answer = subst (λ n. IsAnswer (one_table n [] project) (state g old).now.trees [] found) (sym at) (read_answer schema text [] (one_table tree [] project) heads it g old new (known _ before) found has) in
      subst (λ l. IsPermutation l found) (ap (map shown) (all_pass h.rows) ∙ are)
      (seen_through (state g old).now.trees h (keeps [] []) (shows project []) (λ r. true) shown found (λ r. refl) past (holds _ before) (selected (state g old).now.trees h.tree [] project [] found answer)),
)
