-- The statements that make a table anew, for any parts.
use Rattle.std.proofs.Common.{◌≡◌, ◌≢◌, ℕ, ◌+◌, ◌<◌, List, [], ◌∷◌, ◌++◌, map, flat_map, take, drop, length, get_or, Result, Ok, IfErr, OnOk, IsTrue}
use Rattle.std.proofs.{Common.{take-append-drop, refl, sym, ap, ap₂, subst, ◌∙◌}, lemmas.List.{take_more, map-append, at_drop_more}}
use Rattle.std.{proofs.lemmas.{List.Sorted.{IsPermutation-middle, IsPermutation-sym}, Result.IfErr-weaker}, specs.List.Sorted.IsPermutation}
use Rattle.sqlite_value.specs.{Order.{Row, column}, Value.owned, declared.value.{Value.TheVariants.Null, ValueRef.ValueRef}}
use Rattle.{sqlite_schema.specs.declared.schema.{Index.Index, Table.Table}, sqlite_catalog.specs.Change.{created, next_tree, without_table}}
use Rattle.sqlite.specs.{Effect.Database, Held.{Held, state}, State.{State, HasCleanDisk, Survives}, Values.{bound, bound_value}, declared.error.Error.Error}
use Rattle.{sqlite.specs.declared.error.Error.TheVariants.SqliteFailure, hub_store.proofs.Edits.{Inside.goes_asked, Steps.on_ok}}
use Rattle.hub_store.proofs.{Rows.{PartRows.exchanged_rows, Parts.{drops, adds}}, Versions.Causes.{IsCreation, plain_of, fails_for_reason, reason_after}}
use Rattle.hub_store.{proofs.Versions.{Creates.made_by, DropCauses.{IsDropping, drop_fails}, Drops.dropped_by}, specs.{Failing.HasReason, Keeps.{Goes, HasRun}}}
use Rattle.hub_store.specs.{Keeps.HasFailed, Layout.{Step, apart_from, made_anew}, Parts.{Part, indexes_of, schema_of, HoldsParts}, inner.Beside.AreNumbered}
use Rattle.hub_store.specs.inner.{Makes.{Makes, FailsOnly, Creates}, Queries.{HasShown, HasRefused}, Remakes.{Leaves, FailsForReason, ShowsOf}}
use Rattle.hub_store.specs.inner.Remakes.{IsRefusedForReason, HoldsAnew}
use Rattle.sqlite_trees.specs.declared.store.Store as store
use Rattle.sqlite.specs.declared.error.ErrorCode.TheVariants as code

-- ---- DROP of one part, to which nothing refers: for parts that are written out, `refl` proves the last premise

module _ {S : Type 0} (g : store.Ghosts S) (qs : List Part) (p : Part) (rs : List Part) (text : List ℕ) (at : ℕ) (it : IsDropping (schema_of (qs ++ p ∷ rs)) text at p.table) (left : without_table (schema_of (qs ++ p ∷ rs)) p.table.tree ≡ schema_of (qs ++ rs)) where
  pub drops_leave : Leaves g text [] (HoldsParts (qs ++ p ∷ rs)) (HoldsParts (qs ++ rs))
  drops_leave old new count h has =
      drops qs p rs _ _ left (dropped_by (state g old) (state g new) text (schema_of (qs ++ p ∷ rs)) at p.table has.known it.command it.listed it.quiet it.uncounted (plain_of text [] _ it.whole) count h) has

  pub drops_fail : FailsForReason g text [] (HoldsParts (qs ++ p ∷ rs))
  drops_fail old new e h has other = drop_fails (schema_of (qs ++ p ∷ rs)) text at p.table it (state g old) (state g new) has.known e other h

-- ---- CREATE of the table of a step

module _ {S : Type 0} (g : store.Ghosts S) (step : Step) (ps : List Part) (text : List ℕ) (it : IsCreation (schema_of (apart_from step.table.name ps)) text step.table) (more : created (schema_of (apart_from step.table.name ps)) step.table ≡ schema_of (made_anew step [] ps)) where
  pub creates_leave : Leaves g text [] (HoldsParts (apart_from step.table.name ps)) (HoldsAnew step [] ps)
  creates_leave old new count h has =
      let others = apart_from step.table.name ps in
      let part : Part = record { table = record step.table { tree = next_tree (schema_of others) }; seen = step.seen; rows = [] } in
      let made = made_by (state g old) (state g new) text (schema_of others) step.table has.known it count h in
      record { parts = adds others part step.table _ _ more refl refl made has; numbered = λ _. subst (AreNumbered 1) (sym made.empty) tt }

  pub creates_fail : FailsForReason g text [] (HoldsParts (apart_from step.table.name ps))
  creates_fail old new e h has other = fails_for_reason (schema_of (apart_from step.table.name ps)) text step.table it (state g old) (state g new) has.known e other h

-- ---- rows that are put one after another

same_tables : (qs : List Part) (p : Part) (rows : List Row) → map (λ (q : Part). q.table) (qs ++ p ∷ []) ≡ map (λ (q : Part). q.table) (qs ++ record p { rows = rows } ∷ [])
same_tables [] p rows = refl
same_tables (q ∷ qs) p rows = ap (λ ts. q.table ∷ ts) (same_tables qs p rows)

same_indexes : (qs : List Part) (p : Part) (rows : List Row) → flat_map (λ (q : Part). indexes_of q.table) (qs ++ p ∷ []) ≡ flat_map (λ (q : Part). indexes_of q.table) (qs ++ record p { rows = rows } ∷ [])
same_indexes [] p rows = refl
same_indexes (q ∷ qs) p rows = ap (λ is. indexes_of q.table ++ is) (same_indexes qs p rows)

-- no row counts for the schema
same_schema : (qs : List Part) (p : Part) (rows : List Row) → schema_of (qs ++ p ∷ []) ≡ schema_of (qs ++ record p { rows = rows } ∷ [])
same_schema qs p rows = ap₂ (λ (ts : List Table) (is : List Index). record { tables = ts; indexes = is; views = [] }) (same_tables qs p rows) (same_indexes qs p rows)

-- they may be in any order
pub anew_permuted : (step : Step) (ps : List Part) (db : Database) (rows more : List Row) → IsPermutation rows more → HoldsAnew step rows ps db → HoldsAnew step more ps db
anew_permuted step ps db rows more same has =
    let others = apart_from step.table.name ps in
    let part : Part = record { table = record step.table { tree = next_tree (schema_of others) }; seen = step.seen; rows = rows } in
    record {
      parts = record { known = has.parts.known ∙ same_schema others part more; whole = has.parts.whole; means = exchanged_rows db.trees others part [] more same has.parts.means };
      numbered = has.numbered;
    }

-- after one of them are the others
pub rest_at : (xs : List Row) (i : ℕ) (x : Row) → i < length xs → x ≡ get_or xs i x → IsPermutation (x ∷ take i xs ++ drop (i + 1) xs) xs
rest_at xs i x low is =
    let whole : take i xs ++ x ∷ drop (i + 1) xs ≡ xs = ap (λ y. take i xs ++ y ∷ drop (i + 1) xs) is ∙ (sym (at_drop_more (λ l. take i xs ++ l) xs i x low) ∙ take-append-drop i xs) in
    subst (IsPermutation (x ∷ take i xs ++ drop (i + 1) xs)) whole (IsPermutation-sym _ _ (IsPermutation-middle (take i xs) x (drop (i + 1) xs)))

-- ---- the calls that run the texts

module _ {S : Type 0} (g : store.Ghosts S) (text : List ℕ) (params : Row) (old new : Held S) {T : Type 0} (result : Result T Error) where
  -- a text that was run leaves what it does
  pub leaves_by : (Before After : Database → Type 0) → Leaves g text params Before After → Goes (state g old) (state g new) result → (HasCleanDisk (state g new) → IsTrue (state g old).in_transaction → OnOk result (HasRun g text params old new)) → Makes (state g old) (state g new) Before After result
  leaves_by Before After leaves goes ran = record {
    goes = goes;
    made = λ clean inside before. on_ok result (HasRun g text params old new) _ (λ (it : HasRun g text params old new). leaves it.mid new it.count it.executes (subst Before (sym it.same.0.now_is) before)) (ran clean inside);
  }

  -- one that failed had a reason, unless it was for want of memory
  pub fails_unless : (Before : Database → Type 0) → FailsForReason g text params Before → (HasCleanDisk (state g new) → IsTrue (state g old).in_transaction → IfErr result (λ e. e ≢ SqliteFailure code.OutOfMemory → HasFailed g text params old new e)) → FailsOnly (state g old) (state g new) Before result
  fails_unless Before why failed = record {
    cause = λ clean inside before. IfErr-weaker result (λ e. e ≢ SqliteFailure code.OutOfMemory → HasFailed g text params old new e) (λ e. e ≢ SqliteFailure code.OutOfMemory → HasReason (state g old) (state g new))
        (λ e h other. let it = h other in reason_after (state g old) (state g it.mid) (state g new) _ it.survives it.is_open (why it.mid new e it.executes (subst Before (sym it.now) before) other)) (failed clean inside);
  }

  pub fails_with : (Before : Database → Type 0) → FailsForReason g text params Before → (HasCleanDisk (state g new) → IsTrue (state g old).in_transaction → IfErr result (HasFailed g text params old new)) → FailsOnly (state g old) (state g new) Before result
  fails_with Before why failed =
      fails_unless Before why (λ clean inside. IfErr-weaker result (HasFailed g text params old new) (λ e. e ≢ SqliteFailure code.OutOfMemory → HasFailed g text params old new e) (λ e it other. it) (failed clean inside))

-- a row that was put is kept
pub keeps_row : {S : Type 0} (g : store.Ghosts S) (text : List ℕ) (row : Row) (step : Step) (ps : List Part) (rows more : List Row) → Leaves g text (map bound_value row) (HoldsAnew step rows ps) (HoldsAnew step (step.row row ∷ rows) ps) → IsPermutation (step.row row ∷ rows) more
    → (old new : Held S) {T : Type 0} (result : Result T Error) → Goes (state g old) (state g new) result → (HasCleanDisk (state g new) → IsTrue (state g old).in_transaction → OnOk result (HasRun g text (map bound_value row) old new)) → Makes (state g old) (state g new) (HoldsAnew step rows ps) (HoldsAnew step more ps) result
keeps_row g text row step ps rows more leaves same old new result goes ran =
    leaves_by g text (map bound_value row) old new result (HoldsAnew step rows ps) (HoldsAnew step more ps)
    (λ mid end count h before. anew_permuted step ps (state g end).now (step.row row ∷ rows) more same (leaves mid end count h before)) goes ran

-- the rows were read, and the transaction goes on
pub asked_goes : {S : Type 0} (g : store.Ghosts S) (text : List ℕ) (old new : Held S) (found : List Row) → Survives (state g old) (state g new) (λ _. ⊥) → (HasCleanDisk (state g new) → HasShown g text [] old new found) → Goes {T = Unit {0}} (state g old) (state g new) (Ok tt)
asked_goes g text old new found survives shown = goes_asked g text [] old new found (Ok tt) survives shown

-- what held before the rows were read holds afterwards
pub asked_makes : {S : Type 0} (g : store.Ghosts S) (text : List ℕ) (old new : Held S) (Before : Database → Type 0) (rows found : List Row) → ShowsOf g text Before rows → Survives (state g old) (state g new) (λ _. ⊥) → (HasCleanDisk (state g new) → HasShown g text [] old new found)
    → Makes {T = Unit {0}} (state g old) (state g new) Before Before (Ok tt)
asked_makes g text old new Before rows found shows survives shown = record {
  goes = goes_asked g text [] old new found (Ok tt) survives shown;
  made = λ clean inside before. subst Before (sym (shows old new found (shown clean) before).0.0.now_is) before;
}

-- they were not, for a reason
pub asked_fails : {S : Type 0} (g : store.Ghosts S) (text : List ℕ) (old new : Held S) (Before : Database → Type 0) {T : Type 0} (result : Result T Error) → IsRefusedForReason g text Before → (HasCleanDisk (state g new) → IfErr result (HasRefused g text [] old new)) → FailsOnly (state g old) (state g new) Before result
asked_fails g text old new Before result why refused = record {
  cause = λ clean inside before. IfErr-weaker result (HasRefused g text [] old new) (λ e. e ≢ SqliteFailure code.OutOfMemory → HasReason (state g old) (state g new)) (λ e it other. why old new e it before other) (refused clean);
}

-- one more column of a row, as it is bound
pub bound_more : (items new : List ValueRef) (v : ValueRef) (row : Row) (at : ℕ) → at < length row → owned v ≡ column row at → new ≡ items ++ v ∷ [] → bound items ≡ map bound_value (take at row) → bound new ≡ map bound_value (take (at + 1) row)
bound_more items new v row at low read pushed so_far =
    ap bound pushed
    ∙ (map-append (λ v. bound_value (owned v)) items (v ∷ [])
    ∙ (ap (λ l. l ++ bound_value (owned v) ∷ []) so_far
    ∙ (ap (λ x. map bound_value (take at row) ++ bound_value x ∷ []) read
    ∙ (sym (map-append bound_value (take at row) (column row at ∷ [])) ∙ ap (map bound_value) (sym (take_more row at Null low))))))

-- the table was made without a row
pub made_bare : {T : Type 0} (old new : State) (step : Step) (ps : List Part) (result : Result T Error) → Makes old new (HoldsParts ps) (HoldsAnew step [] ps) result → FailsOnly old new (HoldsParts ps) result → Creates old new (HoldsParts ps) (HoldsParts (made_anew step [] ps)) result
made_bare old new step ps result makes fails = record {
  makes = record { goes = makes.goes; made = λ clean inside before. on_ok result _ _ (λ (has : HoldsAnew step [] ps new.now). has.parts) (makes.made clean inside before) };
  cause = fails.cause;
}
