-- The statements that take the version and put another, with any tables after it, fail only for a limit on steps.
use Rattle.std.proofs.Common.{◌≡◌, ◌≢◌, inl, inr, ℕ, ◌==◌, pos, List, [], ◌∷◌, map, drop, length, nat_lt, Bool, true, false, not, ◌||◌, ◌&&◌, IsSome, Option}
use Rattle.std.proofs.{Common.{Ok, Err, codes, refl, sym, ap, subst, ◌∙◌, arith, ◌<◌, ◌^◌}, Math.Bool.and-false, lemmas.Bool.{true≢false, and_parts, and_from}}
use Rattle.std.{proofs.lemmas.{Bool.{not-true, lt-ltb}, List.Sorted.{length_permutation, IsPermutation-refl}}, specs.List.{AllByRecursion, list_all}}
use Rattle.{std.specs.{List.Sorted.IsPermutation, Str.bytes_eq}, sqlite_rules.{proofs.ListLemmas.{test_has, test_from}, specs.{Calls.ids_of, Cast.cast_row}}}
use Rattle.sqlite_rules.specs.{Edit.{edit_of, numbered}, declared.error.Refusal.TheVariants.{Violates, Mismatch, NoRowid, BadReference, TooDeep}}
use Rattle.{sqlite_rules.specs.declared.error.Rowids.TheVariants.Given, sqlite_value.specs.{Order.Row, declared.value.Value.TheVariants.{Null, Int}}}
use Rattle.{sqlite_trees.specs.Tree.{Trees, with_tree}, sqlite_sql.specs.{Query.Query, Term.{lit, col}}, sqlite_schema.specs.Rules.{Keeps, guards, clashes}}
use Rattle.sqlite_schema.specs.declared.{command.Command.TheVariants.Delete, schema.Constraint.TheVariants.{Datatype, NotNull, Check, PrimaryKey, Unique}}
use Rattle.sqlite_schema.specs.declared.schema.{Constraint.TheVariants.ForeignKey, Index.Index, Keys.TheVariants.Enforced, Schema.Schema, Table.Table}
use Rattle.{sqlite_tied.specs.Compute.everything, sqlite.{proofs.Callers.statement_of, specs.{Effect.{IsDatabase, RefusesQuery}, Listing.understood}}}
use Rattle.sqlite.specs.{State.{State, Executes, ExecutesInside}, declared.error.Error.{Error, TheVariants.SqliteFailure}}
use Rattle.hub_store.proofs.Rows.{Compare.{cast_int, cast_null}, Forms.{one_table, program}, Held.bare, PartRows.{Stands, takes}, Texts.put_version}
use Rattle.hub_store.proofs.Versions.Beside.{each_row, unreferred, unreferred_by, apart, none_referred, no_works, other_indexes, still_unique}
use Rattle.hub_store.proofs.Versions.{Causes.fails_as, Inserts.{IsFitRow, IsInsert, IsKeyed, behind_fails, is_own}, StepRows.puts_rows, WriteCauses.Breaks}
use Rattle.hub_store.{proofs.Versions.WriteCauses.{IsWritable, delete_stops}, specs.{Failing.HasReason, Layout.{hub_part, under}, Parts.{Part, schema_of}}}
use Rattle.hub_store.specs.{Parts.{are_beside, HoldsParts}, Shapes.hub_table, inner.Beside.{AreNumbered, IsRowOf, Unlike, CanNumber}}
use Rattle.sqlite.specs.declared.error.ErrorCode.TheVariants as code

abbrev pub take_version : List ℕ
take_version = codes "DELETE FROM hub"

abbrev all_versions : Query
all_versions = one_table 0 [] (col 1 0 ∷ [])

either_way : (b c : Bool) → c ≡ true → (not b || c) ≡ true
either_way true c is = is
either_way false c is = refl

-- a table without a row holds none
no_row : (rows : List Row) → IsPermutation [] (map (drop 1) rows) → rows ≡ []
no_row [] same = refl
no_row (r ∷ rows) same = absurd (let long = length_permutation [] (map (drop 1) (r ∷ rows)) same in cc)

module _ (ps : List Part) (beside : are_beside 0 ps ≡ true) where
  abbrev schema : Schema
  schema = schema_of (hub_part [] ∷ ps)

  stands_hub : IsWritable schema hub_table 0
  stands_hub = record { listed = refl; uncounted = refl; unreferred = unreferred 0 ps beside }

  none_refers : AllByRecursion (λ (t : Table). t.references ≡ []) schema.tables
  none_refers = unreferred_by schema.tables stands_hub.unreferred

  -- no index guards the table of the version
  unguarded : (db : Trees) (rows : List Row) → IsDatabase (record { schema = schema; trees = db }) → Keeps Unique schema (with_tree db 0 rows)
  unguarded db rows whole = still_unique schema db 0 rows (λ t is. each_row _ (λ r. free t is rows r schema.indexes (other_indexes 0 ps beside)) rows) (whole.obeys.rules Unique)
    where
      free : (t : Table) → t.tree ≡ 0 → (rows : List Row) (r : Row) (is : List Index) → list_all (λ (i : Index). not (i.table == 0)) is ≡ true → list_all (λ (i : Index). not (guards i t && clashes i.order i.columns rows r)) is ≡ true
      free t at rows r [] other = refl
      free t at rows r (i ∷ is) other =
          let both = and_parts _ _ other in
          let off : guards i t ≡ false = ap (λ n. i.is_unique && (i.table == n)) at ∙ ap (λ b. i.is_unique && b) (not-true _ both.0) ∙ and-false i.is_unique in
          and_from _ _ (ap (λ b. not (b && clashes i.order i.columns rows r)) off) (free t at rows r is both.1)

  -- ---- the version is taken

  takes_none : (db : Trees) (rows : List Row) → IsDatabase (record { schema = schema; trees = db }) → ¬ Breaks schema db (edit_of db hub_table (ids_of rows) Given 0 [])
  takes_none db rows whole (inl (Violates Datatype, h)) = true≢false h
  takes_none db rows whole (inl (Violates NotNull, h)) = true≢false h
  takes_none db rows whole (inl (Violates Check, h)) = true≢false h
  takes_none db rows whole (inl (Violates PrimaryKey, h)) = true≢false h
  takes_none db rows whole (inl (Violates Unique, h)) = h (unguarded db _ whole)
  takes_none db rows whole (inl (Violates ForeignKey, h)) = h
  takes_none db rows whole (inl (Mismatch, h)) = true≢false h
  takes_none db rows whole (inl (NoRowid, h)) = true≢false h
  takes_none db rows whole (inl (BadReference, h)) = true≢false (sym (either_way (nat_lt 0 (length (ids_of rows))) _ (none_referred schema hub_table schema.tables none_refers)) ∙ h)
  takes_none db rows whole (inl (TooDeep, h)) = h
  takes_none db rows whole (inr big) = big.1

  unasked : (limit : Option ℕ) (db : Trees) (e : Error) → RefusesQuery limit (record { schema = schema; trees = db }) (program all_versions) [] e → IsSome limit
  unasked limit db e (inl h) = absurd (true≢false h.1)
  unasked limit db e (inr (inl (is, inl none))) = absurd none
  unasked limit db e (inr (inl (is, inr rows))) = absurd rows.4
  unasked limit db e (inr (inr h)) = h.1

  pub take_fails : (before : ℕ) (old new : State) (e : Error) → ExecutesInside 0 take_version [] old new (Err e) → HoldsParts (under before ps) old.now → e ≢ SqliteFailure code.OutOfMemory → HasReason old new
  unfolding understood everything
  take_fails before old new e h has other =
      let db = old.now.trees in
      let sound : IsDatabase (record { schema = schema; trees = db }) = subst (λ k. IsDatabase (record { schema = k; trees = db })) has.known has.whole in
      elim (fails_as take_version [] old schema has.known (refl, refl, refl, refl) new (Delete 0 (program all_versions)) refl tt e other h) [
        | inl reason ↦ reason
        | inr refused ↦ elim (delete_stops schema hub_table 0 stands_hub old (statement_of take_version (understood schema take_version)) (program all_versions) has.known (unasked old.step_limit db) refused.0 refused.1) [
          | inl limited ↦ inr (inr limited)
          | inr broken ↦ absurd (takes_none db broken.0 sound broken.1)
        ]
      ]

  -- ---- another is put

  keyed : IsKeyed schema hub_table 0 []
  keyed =
      let own = test_from (is_own hub_table []) schema.indexes (λ i h. ap (λ b. b || (bytes_eq i.columns [] && (i.order.digits == 0))) (test_has (λ (i : Index). not (i.table == 0)) schema.indexes i (other_indexes 0 ps beside) h)) in
      record { writable = stands_hub; own = own; refers = refl; timeless = refl; exact = refl; narrow = refl }

  abbrev kept : ℕ → Row
  kept n = Int (pos n) ∷ []

  fit : (k n : ℕ) → k < 2 ^ 63 → Unit {0} → IsFitRow schema hub_table [] (Int (pos k) ∷ kept n)
  fit k n low any = record { rules = λ db. refl; numbered = refl; low = lt-ltb k (2 ^ 63) low; exact = refl; wide = refl; short = omega arith; entry = omega arith }

  cast_kept : (n : ℕ) → cast_row hub_table (bare (kept n)) ≡ bare (kept n)
  cast_kept n = rw (cast_int n, cast_null) refl

  inserts : (n : ℕ) → IsInsert schema hub_table 0 put_version (kept n) (bare (kept n) ∷ [])
  unfolding understood everything
  inserts n = record { terms = lit Null ∷ col 0 0 ∷ []; width = 2; command = refl; whole = (refl, refl, refl, refl); accepted = refl; given = ap (λ r. r ∷ []) (cast_kept n) }

  pub put_fails : (n : ℕ) (old new : State) (e : Error) → ExecutesInside 0 put_version (kept n) old new (Err e) → HoldsParts (hub_part [] ∷ ps) old.now → e ≢ SqliteFailure code.OutOfMemory → HasReason old new
  put_fails n old new e h has other =
      let can : CanNumber (Unlike []) (IsRowOf kept (λ _. Unit {0})) (kept n ∷ []) = (record { apart = (tt, tt); each = ((n, refl, tt), tt) }, omega arith) in
      behind_fails schema hub_table 0 [] keyed put_version (kept n) (kept n ∷ []) (inserts n) kept (λ _. Unit {0}) fit [] can
      old new e has.known has.whole (subst (AreNumbered 1) (sym (no_row (old.now.trees 0) has.means.0.same)) tt) has.means.0.same h other

  -- ---- what they leave

  stands_first : (rows : List Row) → Stands [] (hub_part rows) ps 0
  stands_first rows = record { listed = refl; uncounted = refl; timeless = refl; alone = no_works schema Enforced none_refers; apart = apart 0 ps beside; same = λ rows. refl }

  pub takes_version : (before : ℕ) (old new : State) (count : ℕ) → Executes take_version [] old new (Ok count) → HoldsParts (under before ps) old.now → HoldsParts (hub_part [] ∷ ps) new.now
  unfolding understood everything
  takes_version before old new count h has =
      takes [] (hub_part ((Int (pos before) ∷ []) ∷ [])) ps 0 (stands_first _) take_version [] old new (refl, refl) count h has [] refl (λ r. true) (λ r. refl) [] refl

  pub puts_version : (n : ℕ) (old new : State) (count : ℕ) → Executes put_version (kept n) old new (Ok count) → HoldsParts (hub_part [] ∷ ps) old.now → HoldsParts (under n ps) new.now
  puts_version n old new count h has = puts_rows [] (hub_part []) ps 0 (stands_first []) put_version (kept n) (bare (kept n) ∷ []) (inserts n) (kept n ∷ []) (λ before. refl) (kept n ∷ []) (IsPermutation-refl _) old new count h has
