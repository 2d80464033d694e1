-- The query for the version, under any schema.
use Rattle.std.proofs.Common.{◌≡◌, ◌≢◌, ◌≤◌, ◌⊎◌, inl, inr, ℕ, List, [], length, map, append-nil, Bool, true, false, cond, IsSome, is_some, Option, Some, None}
use Rattle.std.proofs.{Common.{Ok, Err, Result, IfOk, IfErr, IfSome, refl, sym, ap, subst, ◌∙◌, arith}, lemmas.Result.IfOk-weaker}
use Rattle.{sqlite_value.specs.Order.{Row, column}, sqlite_schema.specs.declared.{command.Command.Command, schema.Schema.Schema}}
use Rattle.sqlite_resolve.specs.{Compile.compiled, declared.{compiled.Compiled.Compiled, error.CompileError.{CompileError, TheVariants.NoSuchTable}}}
use Rattle.{sqlite_tied.specs.Compute.everything, sqlite.specs.{Clock.timed, Effect.{Database, Reads, RefusesToRead}, Listing.{understood, reads_listing}}}
use Rattle.sqlite.specs.{Listing.{listing_schema, if_select, IsSourceOf}, State.{State, Shown, IsStatement, IsNoStatement, IsNotRun, FailsToQuery, FailsToShow}}
use Rattle.sqlite.specs.{State.{IsTooLate, IsUnchanged, IsLive}, declared.error.Error.{Error, TheVariants.SqliteFailure}}
use Rattle.hub_store.proofs.{Rows.Outcomes.plain_shown, Versions.{AnySchema.bare_anywhere, Causes.{failed_only, reason_before}, Readable.read_there}}
use Rattle.hub_store.{proofs.Versions.{Readable.never_refused, VersionRows.version_told}, specs.{Failing.HasReason, Versions.{version_column, version_text}}}
use Rattle.hub_store.specs.Versions.{only_u32, version_of}
use Rattle.sqlite.specs.declared.error.ErrorCode.TheVariants as code

-- the listing has no such table
listing_lacks : if_select (compiled listing_schema version_text) ≡ Err NoSuchTable
unfolding compiled listing_schema everything
listing_lacks = refl

-- the query reads the tables and not their listing
from_tables : (schema : Schema) (x : Compiled) → understood schema version_text ≡ Ok x → (reads_listing schema version_text ≡ false) × (compiled schema version_text ≡ Ok x)
unfolding understood
from_tables schema x e = go (reads_listing schema version_text) refl e
  where
    go : (b : Bool) → reads_listing schema version_text ≡ b → cond b (if_select (compiled listing_schema version_text)) (compiled schema version_text) ≡ Ok x → (reads_listing schema version_text ≡ false) × (compiled schema version_text ≡ Ok x)
    go false is e = (is, e)
    go true is e = absurd (let never = sym listing_lacks ∙ e in cc)

answer_of : (params : Row) (old new : State) (rows : List Row) → Shown version_text params old new rows → (c : Compiled) × (understood old.now.schema version_text ≡ Ok c) × Reads c.command old.now params rows
unfolding Shown
answer_of params old new rows h =
    let tables = from_tables old.now.schema h.0 h.1.is in
    let bare = bare_anywhere old.now.schema h.0 tables.1 in
    let it = rw (bare.0, bare.1, append-nil params) at h.2 in
    let db : it.0 ≡ old.now = subst (λ b. IsSourceOf b old.now it.0) tables.0 it.1 in
    (h.0, h.1.is, subst (λ d. Reads h.0.command d params rows) db it.2)

-- it changes nothing
pub versions_same : (old new : State) (rows : List Row) → Shown version_text [] old new rows → IsUnchanged old new
unfolding Shown
versions_same old new rows h =
    let tables = from_tables old.now.schema h.0 h.1.is in
    plain_shown old new version_text h.0 _ rows h.0.returning (bare_anywhere old.now.schema h.0 tables.1).0 h.2

-- the rows of the query give the version, if there is the column
pub told_by_rows : (old new : State) (has : Bool) (rows : List Row) (r : Result (Option ℕ) Error) → has ≡ true → has ≡ is_some (version_column old.now.schema) → Shown version_text [] old new rows → IfOk r (λ found. found ≡ only_u32 (map (λ (r : Row). column r 0) rows))
    → IfOk r (λ found. found ≡ version_of old.now)
told_by_rows old new has rows r up is shown found =
    let it = answer_of [] old new rows shown in
    let told = version_told old.now it.0 rows (sym is ∙ up) (from_tables old.now.schema it.0 it.1).1 it.2 in
    IfOk-weaker r _ _ (λ n same. same ∙ told) found

-- what holds after the query answered holds of a version that is found
pub once_told : (P : Type 0) (r : Result (Option ℕ) Error) → P → IfOk r (λ found. IfSome found (λ _. P))
once_told P (Ok (Some n)) p = p
once_told P (Ok None) p = tt
once_told P (Err e) p = tt

-- ---- why the query fails

not_read_reason : (old : State) (e : Error) → IsNoStatement old version_text [] e → (fault : CompileError) × (understood old.now.schema version_text ≡ Err fault)
not_read_reason old e (inl h) = (h.0, h.1)
not_read_reason old e (inr h) =
    let bare = bare_anywhere old.now.schema h.0 (from_tables old.now.schema h.0 h.1).1 in
    elim h.2 [
      | inl cut ↦ absurd (cut.0 (omega (arith, bare.3)))
      | inr (inl given) ↦ absurd (given.0 (sym (ap length bare.2)))
      | inr (inr timed) ↦ absurd (timed.0 bare.1)
    ]

-- what SQL refuses
refusal_of : (params : Row) (old new : State) (e : Error) → (c : Compiled) × (it : IsStatement old version_text params c) × FailsToShow old new version_text c (timed params c.formats it.now) e c.returning
    → (c : Compiled) × (understood old.now.schema version_text ≡ Ok c) × RefusesToRead old.step_limit c.command old.now params e
refusal_of params old new e h =
    let tables = from_tables old.now.schema h.0 h.1.is in
    let bare = bare_anywhere old.now.schema h.0 tables.1 in
    let it = rw (bare.0, bare.1, append-nil params) at h.2 in
    let db : it.0 ≡ old.now = subst (λ b. IsSourceOf b old.now it.0) tables.0 it.1 in
    (h.0, h.1.is, subst (λ d. RefusesToRead old.step_limit h.0.command d params e) db it.2)

-- with no limit on steps, or with one
by_limit : (limit : Option ℕ) (command : Command) (db : Database) (e : Error) → RefusesToRead limit command db [] e → IsSome limit ⊎ RefusesToRead None command db [] e
by_limit (Some n) command db e h = inl refl
by_limit None command db e h = inr h

pub unread_reason : (old new : State) (has : Bool) (e : Error) → has ≡ true → has ≡ is_some (version_column old.now.schema) → IsLive old → e ≢ SqliteFailure code.OutOfMemory
    → FailsToQuery version_text [] old new e ⊎ IsTooLate version_text [] old new e → HasReason old new
unfolding FailsToQuery IsNotRun
unread_reason old new has e up is live other (inl (inl (inl h))) =
    let none = not_read_reason old e h.0 in
    let there = read_there old.now (live h.1.0.was_open).0 (sym is ∙ up) in
    absurd (let both = sym there.1 ∙ none.1 in cc)
unread_reason old new has e up is live other (inl (inl (inr h))) = failed_only old new e other h
unread_reason old new has e up is live other (inl (inr h)) =
    let r = refusal_of [] old new e h in
    elim (by_limit old.step_limit r.0.command old.now e r.2) [
      | inl some ↦ inr (inr some)
      | inr refuses ↦ absurd (never_refused old.now (sym is ∙ up) r.0 e (from_tables old.now.schema r.0 r.1).1 refuses)
    ]
unread_reason old new has e up is live other (inr h) =
    absurd (let none = (bare_anywhere old.now.schema h.0 (from_tables old.now.schema h.0 h.1.is).1).0 in let some = h.2 in cc)

pub later_reason : (old new : State) (faults : ℕ) (r : Result (Option ℕ) Error) → new.faults ≤ faults → IfErr r (λ e. e ≢ SqliteFailure code.OutOfMemory → HasReason old new)
    → IfErr r (λ e. e ≢ SqliteFailure code.OutOfMemory → HasReason old (record new { faults = faults }))
later_reason old new faults (Ok x) more h = tt
later_reason old new faults (Err e) more h = λ other. reason_before old new (record new { faults = faults }) more (h other)
