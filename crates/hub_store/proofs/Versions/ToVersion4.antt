-- The texts of the step to version 4: what each makes, and that it fails only for a limit on steps.
use Rattle.std.proofs.Common.{◌≡◌, ℕ, pos, List, [], ◌∷◌, ◌++◌, map, drop, take, codes, refl, sym, ap, ap₂, subst, ◌^◌, arith, inl, inr, ◌∙◌}
use Rattle.{std.{proofs.lemmas.{Bool.lt-ltb, List.Sorted.IsPermutation-refl}, specs.List.AllByRecursion}, sqlite_rules.specs.Cast.cast_row}
use Rattle.{sqlite_value.specs.{Order.{Row, column}, declared.value.Value.TheVariants.{Int, Null}}, sqlite_sql.specs.Term.{Term, col, lit}}
use Rattle.{sqlite_schema.specs.declared.schema.{Schema.Schema, Table.Table}, sqlite_catalog.specs.Change.without_table, sqlite_tied.specs.Compute.everything}
use Rattle.{sqlite.specs.{Effect.Database, Held.state, Listing.understood}, hub_state.specs.{Sound.IsSound, declared.state.{Incident.Incident, Naming.Naming}}}
use Rattle.{sqlite_trees.proofs.ListLemmas.{map-map, all_both}, hub_store.proofs.Rows.{Compare.{cast_int, cast_null}, Forms.one_table, PartRows.{Stands, puts}}}
use Rattle.hub_store.proofs.{Rows.Parts.AreHeld, Versions.{Causes.{IsCreation, naming}, DropCauses.IsDropping, Inserts.{IsFitRow, IsInsert, IsKeyed}}}
use Rattle.hub_store.proofs.Versions.{Inserts.number_fails, Movable.names_stand_as, ReadRows.{IsReading, reads_rows, read_fails}, Remaking.drops_leave}
use Rattle.hub_store.proofs.Versions.{Remaking.{drops_fail, creates_leave, creates_fail}, Standing.{can_before, can_permuted}, StepRows.{puts_each, puts_rows}}
use Rattle.hub_store.{proofs.Versions.{StepRows.takes_each, WriteCauses.IsWritable}, specs.Fit.{AreTaken, IsFit, NamesNoCommunity, NoneNamesCommunity}}
use Rattle.hub_store.specs.{Fit.{ShortNaming, IsShort}, Layout.{hub_part, under, apart_from, made_anew, incident_part_2, incident_part_4, incident_step}}
use Rattle.hub_store.specs.{Layout.parts_3, Means.HoldsAs, Parts.{Part, held, HoldsParts}, Rows.{naming_row_2, named_row_2, named_row, without_community}}
use Rattle.hub_store.specs.{Tables.{schema_by, incident_table_2, incident_table_4}, Values.number_or_null, declared.next_version.TheConstants.READ_INCIDENTS}
use Rattle.hub_store.specs.{declared.next_version.TheConstants.{DROP_INCIDENTS, CREATE_INCIDENTS, PUT_INCIDENT}, inner.Beside.{CanName, IsRowOf, NumberedApart}}
use Rattle.hub_store.specs.inner.{Beside.{ShortNamingAs, unnamed_row}, Moving.naming_in, Remakes.{StepTexts, Leaves, MakeAnew, Remakes, TakesEach, HoldsAnew}}
use Rattle.hub_store.specs.inner.{Remakes.FailsForReason, Shown.naming_shown_2}
use Rattle.sqlite_trees.specs.declared.store.Store as store
use Rattle.hub_state.specs.State as core

abbrev schema_3 : Schema
schema_3 = schema_by 3

-- the tables of version 3, under any version
abbrev pub tables : List Row → core.State → List Part
tables version s = hub_part version ∷ drop 1 (parts_3 s)

abbrev old_part : core.State → Part
old_part s = incident_part_2 (map named_row_2 s.incidents)

-- ---- the table is made anew

abbrev texts : StepTexts
texts = record { read = READ_INCIDENTS.now; drop = DROP_INCIDENTS.now; create = CREATE_INCIDENTS.now; put = PUT_INCIDENT.now }

dropping : IsDropping schema_3 DROP_INCIDENTS.now 9 (record incident_table_2 { tree = 22 })
unfolding understood everything
dropping = record { command = refl; listed = refl; quiet = refl; uncounted = refl; whole = (refl, refl, refl, refl); unreferred = refl }

creation : IsCreation (without_table schema_3 22) CREATE_INCIDENTS.now incident_table_4
unfolding understood everything naming
creation = record { command = refl; text = refl; defined = refl; whole = (refl, refl, refl, refl); unsequenced = refl; utf8 = ((CREATE_INCIDENTS.now, (refl, refl)), (incident_table_4.name, (refl, refl))); new = refl }

pub makes : {S : Type 0} (g : store.Ghosts S) (version : List Row) (s : core.State) → MakeAnew g texts incident_step (tables version s)
makes g version s =
    let all = tables version s in
    record {
      drops = drops_leave g (take 9 all) (old_part s) (drop 10 all) DROP_INCIDENTS.now 9 dropping refl;
      creates = creates_leave g incident_step all CREATE_INCIDENTS.now creation refl;
      undropped = drops_fail g (take 9 all) (old_part s) (drop 10 all) DROP_INCIDENTS.now 9 dropping refl;
      uncreated = creates_fail g incident_step all CREATE_INCIDENTS.now creation refl;
    }

-- ---- its rows are read

abbrev project : List Term
project = col 1 0 ∷ col 1 2 ∷ col 1 3 ∷ col 1 4 ∷ []

abbrev heads : List (List ℕ)
heads = codes "number" ∷ codes "source" ∷ codes "ident" ∷ codes "revision" ∷ []

reading : IsReading schema_3 READ_INCIDENTS.now [] (one_table 22 [] project) heads
unfolding understood everything
reading = record { command = refl; whole = (refl, refl, refl, refl); unlisted = refl; accepted = refl; exact = λ db. elim [ inl none ↦ none | inr rows ↦ rows.4 ] }

abbrev four : Row → Row
four r = column r 0 ∷ column r 2 ∷ column r 3 ∷ column r 4 ∷ []

-- ---- and put

abbrev schema_4 : Schema
schema_4 = schema_by 4

abbrev incident : Table
incident = (incident_part_4 []).table

abbrev columns : List ℕ
columns = 2 ∷ 3 ∷ []

keyed : IsKeyed schema_4 incident 10 columns
keyed =
    let writable : IsWritable schema_4 incident 10 = record { listed = refl; uncounted = refl; unreferred = refl } in
    record { writable = writable; own = refl; refers = refl; timeless = refl; exact = refl; narrow = refl }

fit : (k : Naming) → ShortNamingAs unnamed_row k → IsFitRow schema_4 incident columns (unnamed_row k)
fit k taken = record { rules = λ db. refl; numbered = refl; low = lt-ltb k.number (2 ^ 63) taken.1; exact = refl; wide = refl; short = taken.0; entry = omega (arith, taken.0) }

cast_unnamed : (k : Naming) → cast_row incident (unnamed_row k) ≡ unnamed_row k
cast_unnamed k = rw (cast_int k.number, cast_int k.source, cast_int k.revision, cast_null) refl

inserts : (k : Naming) → IsInsert schema_4 incident 10 PUT_INCIDENT.now (naming_shown_2 k) (unnamed_row k ∷ [])
unfolding understood everything
inserts k = record {
  terms = col 0 0 ∷ lit Null ∷ col 0 1 ∷ col 0 2 ∷ col 0 3 ∷ lit Null ∷ [];
  width = 6;
  command = refl;
  whole = (refl, refl, refl, refl);
  accepted = refl;
  given = ap (λ r. r ∷ []) (cast_unnamed k);
}

-- the parts that stay, and these incidents with all else of a state
abbrev others : core.State → List Part
others s = under 4 (drop 1 (parts_3 s))

abbrev Unnamed : List Row → core.State → Database → Type 0
Unnamed rows s = HoldsAnew incident_step rows (others s)

puts_row : {S : Type 0} (g : store.Ghosts S) (s : core.State) (k : Naming) (rows : List Row) → Leaves g PUT_INCIDENT.now (naming_shown_2 k) (Unnamed rows s) (Unnamed (unnamed_row k ∷ rows) s)
puts_row g s k rows old new count h has =
    let stands : Stands (apart_from incident_step.table.name (others s)) (incident_part_4 rows) [] 10 = record { listed = refl; uncounted = refl; timeless = refl; alone = λ tree olds news. refl; apart = refl; same = λ rows. refl } in
    record {
      parts = puts_rows (apart_from incident_step.table.name (others s)) (incident_part_4 rows) [] 10 stands PUT_INCIDENT.now (naming_shown_2 k) (unnamed_row k ∷ []) (inserts k) (unnamed_row k ∷ []) (λ before. refl) (unnamed_row k ∷ rows) (IsPermutation-refl _) (state g old) (state g new) count h has.parts;
      numbered = λ is. absurd cc;
    }

row_fails : {S : Type 0} (g : store.Ghosts S) (s : core.State) (k : Naming) (rows : List Row) → CanName unnamed_row (unnamed_row k ∷ rows) → FailsForReason g PUT_INCIDENT.now (naming_shown_2 k) (Unnamed rows s)
row_fails g s k rows can old new e h has other =
    number_fails schema_4 incident 10 columns keyed PUT_INCIDENT.now (naming_shown_2 k) (unnamed_row k) (inserts k) refl unnamed_row (ShortNamingAs unnamed_row) fit rows can
    (state g old) (state g new) e has.parts.known has.parts.whole has.parts.means.1.1.1.1.1.1.1.1.1.1.0.same h other

-- the new table takes all incidents
stand : (s : core.State) → IsSound s → NoneNamesCommunity s → AreTaken s → CanName unnamed_row (map unnamed_row (naming_in s.incidents))
stand s sound none taken =
    names_stand_as (Null ∷ []) s sound
    (all_both NamesNoCommunity ShortNaming (λ (i : Incident). IsShort (unnamed_row i.naming)) (λ i no short. subst (λ c. IsShort (naming_row_2 i.naming ++ number_or_null c ∷ [])) no short.1) s.incidents none taken.incidents)

-- ---- together

abbrev pub rows_of : core.State → List Row
rows_of s = map naming_shown_2 (naming_in s.incidents)

pub remakes : {S : Type 0} (g : store.Ghosts S) (s : core.State) → Remakes g texts incident_step 3 4 (drop 1 (parts_3 s)) (rows_of s)
remakes g s = record {
  beside = refl;
  reads = reads_rows schema_3 READ_INCIDENTS.now 22 project heads reading g (HoldsParts (parts_3 s)) (λ db has. has.known) (held (old_part s)) four (rows_of s) refl (λ r. refl) (map-map four named_row_2 s.incidents ∙ sym (map-map naming_shown_2 (λ (i : Incident). i.naming) s.incidents)) (λ db has. has.means.1.1.1.1.1.1.1.1.1.0);
  unread = λ old new e has before other. read_fails schema_3 READ_INCIDENTS.now [] (one_table 22 [] project) heads reading g old new before.known e has other;
  makes = makes g ((Int (pos 4) ∷ []) ∷ []) s;
  puts = puts_each g PUT_INCIDENT.now incident_step (others s) naming_shown_2 (naming_in s.incidents) (puts_row g s);
}

pub takes : {S : Type 0} (g : store.Ghosts S) (s : core.State) → IsSound s → NoneNamesCommunity s → AreTaken s → TakesEach g PUT_INCIDENT.now incident_step (rows_of s) (others s)
takes g s sound none taken =
    takes_each g PUT_INCIDENT.now incident_step (others s) naming_shown_2 (naming_in s.incidents) (CanName unnamed_row) (can_permuted (NumberedApart columns) (λ a b p. ((p.0.1, p.0.0), (p.1.1, p.1.0))) (IsRowOf unnamed_row (ShortNamingAs unnamed_row))) (can_before (NumberedApart columns) (IsRowOf unnamed_row (ShortNamingAs unnamed_row))) (stand s sound none taken) (row_fails g s)

pub tables_of_3 : (db : Database) (s : core.State) → HoldsAs 3 db s → HoldsParts (parts_3 s) db
tables_of_3 db s has = record { known = has.known; whole = has.whole; means = has.means }

as_named : (is : List Incident) → AllByRecursion NamesNoCommunity is → map without_community (map naming_shown_2 (naming_in is)) ≡ map named_row is
as_named [] none = refl
as_named (i ∷ is) none = ap₂ (λ (r : Row) (l : List Row). r ∷ l) (ap (λ c. naming_row_2 i.naming ++ number_or_null c ∷ []) (sym none.0)) (as_named is none.1)

-- with all rows of version 3 in it, the table is that of version 4
pub held_as_4 : (db : Database) (s : core.State) → IsFit s → NoneNamesCommunity s → HoldsParts (made_anew incident_step (map without_community (rows_of s)) (others s)) db → HoldsAs 4 db s
held_as_4 db s fit none has = record {
  known = has.known;
  whole = has.whole;
  means = subst (λ rows. AreHeld db.trees (made_anew incident_step rows (others s))) (as_named s.incidents none) has.means;
  fit = fit;
}
