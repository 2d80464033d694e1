-- The texts of the step to version 3: what each makes, and that it fails only for a limit on steps.
use Rattle.std.proofs.{Common.{◌≡◌, ℕ, pos, List, [], ◌∷◌, map, drop, take, codes, refl, subst, ◌<◌, ◌^◌, suc, arith, ◌∙◌, inl, inr, ap}, lemmas.Bool.lt-ltb}
use Rattle.{std.proofs.lemmas.List.Sorted.IsPermutation-refl, sqlite_rules.specs.{Cast.cast_row, Edit.numbered}, sqlite_value.specs.Order.{Row, column}}
use Rattle.{sqlite_value.specs.declared.value.Value.TheVariants.{Null, Int}, sqlite_sql.specs.Term.{Term, col, lit}}
use Rattle.{sqlite_schema.specs.declared.schema.{Schema.Schema, Table.Table}, sqlite_catalog.specs.Change.without_table, sqlite_tied.specs.Compute.everything}
use Rattle.{sqlite.specs.{Effect.Database, Held.state, Listing.understood}, hub_state.specs.{Sound.IsSound, State.grantee_key}}
use Rattle.{hub_state.specs.declared.state.Permission.Permission, sqlite_trees.proofs.ListLemmas.map-map, hub_store.proofs.Rows.Compare.{cast_int, cast_null}}
use Rattle.hub_store.proofs.{Rows.{Forms.one_table, Held.bare, PartRows.{Stands, puts}, Parts.AreHeld, Statements.shows}, Versions.Causes.{IsCreation, naming}}
use Rattle.hub_store.proofs.Versions.{DropCauses.IsDropping, Grantable.{grants_stand, as_kept}, Inserts.{IsFitRow, IsInsert, IsKeyed, behind_fails}}
use Rattle.hub_store.proofs.Versions.{Inserts.insert_counts, ReadRows.{IsReading, reads_rows, read_fails}, Remaking.{drops_leave, drops_fail, creates_leave}}
use Rattle.hub_store.proofs.Versions.{Remaking.creates_fail, Standing.{number_before, number_permuted}, StepRows.{puts_each, puts_rows, takes_each}}
use Rattle.hub_store.{proofs.Versions.WriteCauses.IsWritable, specs.{Fit.{FitAs, AreEndless, AreTaken, IsShort}, Layout.{hub_part, under, apart_from}}}
use Rattle.hub_store.specs.{Layout.{made_anew, permission_part, permission_part_3, permission_step, parts_2}, Means.HoldsAs, Parts.{Part, held, HoldsParts}}
use Rattle.hub_store.specs.{Rows.{endless_row, without_end}, Tables.{schema_by, permission_table, permission_table_3}}
use Rattle.hub_store.specs.{declared.next_version.TheConstants.{READ_PERMISSIONS, DROP_PERMISSIONS, CREATE_PERMISSIONS, PUT_PERMISSION}, inner.Beside.CanGrant}
use Rattle.hub_store.specs.inner.{Beside.{IsRowOf, Unlike, ending_row}, Remakes.{StepTexts, Leaves, MakeAnew, Remakes, TakesEach, HoldsAnew, FailsForReason}}
use Rattle.sqlite_trees.specs.declared.store.Store as store
use Rattle.hub_state.specs.State as core

abbrev schema_2 : Schema
schema_2 = schema_by 2

-- the tables of version 2, under any version
abbrev pub tables : List Row → core.State → List Part
tables version s = hub_part version ∷ drop 1 (parts_2 s)

-- ---- the table is made anew

abbrev texts : StepTexts
texts = record { read = READ_PERMISSIONS.now; drop = DROP_PERMISSIONS.now; create = CREATE_PERMISSIONS.now; put = PUT_PERMISSION.now }

dropping : IsDropping schema_2 DROP_PERMISSIONS.now 8 (record permission_table { tree = 16 })
unfolding understood everything
dropping = record { command = refl; listed = refl; quiet = refl; uncounted = refl; whole = (refl, refl, refl, refl); unreferred = refl }

creation : IsCreation (without_table schema_2 16) CREATE_PERMISSIONS.now permission_table_3
unfolding understood everything naming
creation = record { command = refl; text = refl; defined = refl; whole = (refl, refl, refl, refl); unsequenced = refl; utf8 = ((CREATE_PERMISSIONS.now, (refl, refl)), (permission_table_3.name, (refl, refl))); new = refl }

pub makes : {S : Type 0} (g : store.Ghosts S) (version : List Row) (s : core.State) → MakeAnew g texts permission_step (tables version s)
makes g version s =
    let all = tables version s in
    record {
      drops = drops_leave g (take 8 all) (permission_part s) (drop 9 all) DROP_PERMISSIONS.now 8 dropping refl;
      creates = creates_leave g permission_step all CREATE_PERMISSIONS.now creation refl;
      undropped = drops_fail g (take 8 all) (permission_part s) (drop 9 all) DROP_PERMISSIONS.now 8 dropping refl;
      uncreated = creates_fail g permission_step all CREATE_PERMISSIONS.now creation refl;
    }

-- ---- its rows are read

abbrev project : List Term
project = col 1 1 ∷ col 1 2 ∷ col 1 3 ∷ col 1 4 ∷ []

abbrev heads : List (List ℕ)
heads = codes "incident" ∷ codes "path" ∷ codes "kind" ∷ codes "target" ∷ []

reading : IsReading schema_2 READ_PERMISSIONS.now [] (one_table 16 [] project) heads
unfolding understood everything
reading = record { command = refl; whole = (refl, refl, refl, refl); unlisted = refl; accepted = refl; exact = λ db. elim [ inl none ↦ none | inr rows ↦ rows.4 ] }

abbrev four : Row → Row
four r = column r 0 ∷ column r 1 ∷ column r 2 ∷ column r 3 ∷ []

past : (r : Row) → shows project [] r ≡ four (drop 1 r)
past [] = refl
past (x ∷ r) = refl

-- ---- and put

abbrev schema_3 : Schema
schema_3 = schema_by 3

abbrev permission : Table
permission = (permission_part_3 []).table

abbrev columns : List ℕ
columns = 0 ∷ 1 ∷ 2 ∷ 3 ∷ []

abbrev IsShortEnding : Permission → Type 0
IsShortEnding x = IsShort (Null ∷ ending_row x)

keyed : IsKeyed schema_3 permission 10 (map suc columns)
keyed =
    let writable : IsWritable schema_3 permission 10 = record { listed = refl; uncounted = refl; unreferred = refl } in
    record { writable = writable; own = refl; refers = refl; timeless = refl; exact = refl; narrow = refl }

fit : (n : ℕ) (x : Permission) → n < 2 ^ 63 → IsShortEnding x → IsFitRow schema_3 permission (map suc columns) (Int (pos n) ∷ ending_row x)
fit n x low short = record { rules = λ db. refl; numbered = refl; low = lt-ltb n (2 ^ 63) low; exact = refl; wide = refl; short = short; entry = omega (arith, short) }

cast_ending : (x : Permission) → cast_row permission (bare (ending_row x)) ≡ bare (ending_row x)
cast_ending x = rw (cast_int x.incident, cast_int (grantee_key x.permission.grantee).0, cast_int (grantee_key x.permission.grantee).1, cast_null) refl

inserts : (x : Permission) → IsInsert schema_3 permission 10 PUT_PERMISSION.now (endless_row x) (bare (ending_row x) ∷ [])
unfolding understood everything
inserts x = record {
  terms = lit Null ∷ col 0 0 ∷ col 0 1 ∷ col 0 2 ∷ col 0 3 ∷ lit Null ∷ [];
  width = 6;
  command = refl;
  whole = (refl, refl, refl, refl);
  accepted = refl;
  given = ap (λ r. r ∷ []) (cast_ending x);
}

-- the parts that stay, and these permissions with all else of a state
abbrev others : core.State → List Part
others s = under 3 (drop 1 (parts_2 s))

abbrev Granted : List Row → core.State → Database → Type 0
Granted rows s = HoldsAnew permission_step rows (others s)

puts_row : {S : Type 0} (g : store.Ghosts S) (s : core.State) (x : Permission) (rows : List Row) → Leaves g PUT_PERMISSION.now (endless_row x) (Granted rows s) (Granted (ending_row x ∷ rows) s)
puts_row g s x rows old new count h has =
    let stands : Stands (apart_from permission_step.table.name (others s)) (permission_part_3 rows) [] 10 = record { listed = refl; uncounted = refl; timeless = refl; alone = λ tree olds news. refl; apart = refl; same = λ rows. refl } in
    record {
      parts = puts_rows (apart_from permission_step.table.name (others s)) (permission_part_3 rows) [] 10 stands PUT_PERMISSION.now (endless_row x) (bare (ending_row x) ∷ []) (inserts x) (ending_row x ∷ []) (λ before. refl) (ending_row x ∷ rows) (IsPermutation-refl _) (state g old) (state g new) count h has.parts;
      numbered = λ _. insert_counts schema_3 permission 10 (map suc columns) keyed PUT_PERMISSION.now (endless_row x) (bare (ending_row x) ∷ []) (inserts x) (ending_row x ∷ []) refl (state g old) (state g new) count has.parts.known (has.numbered refl) h;
    }

row_fails : {S : Type 0} (g : store.Ghosts S) (s : core.State) (x : Permission) (rows : List Row) → CanGrant (ending_row x ∷ rows) → FailsForReason g PUT_PERMISSION.now (endless_row x) (Granted rows s)
row_fails g s x rows can old new e h has other =
    behind_fails schema_3 permission 10 columns keyed PUT_PERMISSION.now (endless_row x) (ending_row x ∷ []) (inserts x) ending_row IsShortEnding fit rows can
    (state g old) (state g new) e has.parts.known has.parts.whole (has.numbered refl) has.parts.means.1.1.1.1.1.1.1.1.1.1.0.same h other

-- ---- together

abbrev pub rows_of : core.State → List Row
rows_of s = map endless_row s.permissions

pub remakes : {S : Type 0} (g : store.Ghosts S) (s : core.State) → Remakes g texts permission_step 2 3 (drop 1 (parts_2 s)) (rows_of s)
remakes g s = record {
  beside = refl;
  reads = reads_rows schema_2 READ_PERMISSIONS.now 16 project heads reading g (HoldsParts (parts_2 s)) (λ db has. has.known) (held (permission_part s)) four (rows_of s) refl past (map-map four endless_row s.permissions) (λ db has. has.means.1.1.1.1.1.1.1.1.0);
  unread = λ old new e has before other. read_fails schema_2 READ_PERMISSIONS.now [] (one_table 16 [] project) heads reading g old new before.known e has other;
  makes = makes g ((Int (pos 3) ∷ []) ∷ []) s;
  puts = puts_each g PUT_PERMISSION.now permission_step (others s) endless_row s.permissions (puts_row g s);
}

pub takes : {S : Type 0} (g : store.Ghosts S) (s : core.State) → IsSound s → AreEndless s → AreTaken s → TakesEach g PUT_PERMISSION.now permission_step (rows_of s) (others s)
takes g s sound endless taken =
    takes_each g PUT_PERMISSION.now permission_step (others s) endless_row s.permissions CanGrant (number_permuted (Unlike columns) (λ a b p. (p.1, p.0)) (IsRowOf ending_row IsShortEnding)) (number_before (Unlike columns) (IsRowOf ending_row IsShortEnding)) (grants_stand s sound endless taken) (row_fails g s)

pub tables_of_2 : (db : Database) (s : core.State) → HoldsAs 2 db s → HoldsParts (parts_2 s) db
tables_of_2 db s has = record { known = has.known; whole = has.whole; means = has.means }

-- with all rows of version 2 in it, the table is that of version 3
pub held_as_3 : (db : Database) (s : core.State) → FitAs 3 s → AreEndless s → HoldsParts (made_anew permission_step (map without_end (rows_of s)) (others s)) db → HoldsAs 3 db s
held_as_3 db s fit endless has = record {
  known = has.known;
  whole = has.whole;
  means = subst (λ rows. AreHeld db.trees (made_anew permission_step rows (others s))) (map-map without_end endless_row s.permissions ∙ as_kept s.permissions endless) has.means;
  fit = fit;
}
