-- The statements from version 1 to version 2: what each makes, and that a row fails only for a limit on steps.
use Rattle.std.proofs.Common.{◌≡◌, ◌≢◌, ◌+◌, ◌<◌, ℕ, pos, List, [], ◌∷◌, ◌++◌, take, length, get_or, map, Ok, Err, codes, refl, sym, ap, subst, ◌∙◌, ◌^◌, arith}
use Rattle.std.proofs.lemmas.{Bool.lt-ltb, List.{take_more, map-append, Sorted.{IsPermutation-append_comm, IsPermutation-sym}}}
use Rattle.{std.specs.List.Sorted.IsPermutation, sqlite_rules.specs.Cast.cast_row, sqlite_value.specs.{Order.Row, declared.value.Value.TheVariants.{Null, Int}}}
use Rattle.{sqlite_sql.specs.Term.{lit, col}, sqlite_tied.specs.Compute.everything, sqlite.specs.{Listing.understood, State.{Executes, ExecutesInside}}}
use Rattle.{sqlite.specs.declared.error.Error.{Error, TheVariants.SqliteFailure}, hub_state.specs.{State.State, declared.state.Naming.Naming}}
use Rattle.{iodef_tree.specs.declared.line.Line.Line, sqlite_schema.specs.declared.schema.{Schema.Schema, Table.Table}, hub_store.proofs.Rows.Compare.cast_int}
use Rattle.hub_store.proofs.Rows.{Compare.cast_null, Held.{bare, past_rowids}, LineRows.cast_items, PartRows.Stands, Parts.{drops, adds}, Texts.put_line}
use Rattle.hub_store.proofs.{Rows.Texts.{put_naming_2, line_terms}, Versions.{Causes.{IsCreation, naming}, Creates.made_by, DropCauses.IsDropping}}
use Rattle.hub_store.proofs.Versions.{Drops.dropped_by, Inserts.{IsFitRow, IsInsert, IsKeyed, number_fails}, LineCauses.{InsertsLines, lines_count, lines_fail}}
use Rattle.hub_store.proofs.Versions.{LineCauses.{terms_accepted, lines_bound}, Standing.stand_permuted, StepRows.puts_rows, WriteCauses.IsWritable}
use Rattle.hub_store.specs.{Failing.HasReason, Items.{placed_lines, item_row, line_shown}, Layout.{in_versions_1_and_2, incident_part, item_part}}
use Rattle.hub_store.specs.{Layout.{incident_part_2, parts_1, with_items, without_incidents, tables_2}, Parts.{schema_of, HoldsParts}, Rows.naming_row_2}
use Rattle.hub_store.specs.{Tables.{schema_by, beside_item, without_incident, incident_table, item_table, incident_table_2}, inner.Beside.AreNumbered}
use Rattle.hub_store.specs.inner.{Beside.{HoldsBeside, CanStand, CanName, ShortNamingAs}, Shown.naming_shown_2}
use Rattle.sqlite.specs.State as sql
use Rattle.sqlite.specs.declared.error.ErrorCode.TheVariants as code

abbrev pub create_item : List ℕ
create_item = codes "CREATE TABLE item (incident INTEGER NOT NULL, place INTEGER NOT NULL, depth INTEGER NOT NULL, name TEXT NOT NULL, in_array INTEGER NOT NULL, kind INTEGER NOT NULL, text TEXT NOT NULL, UNIQUE (incident, place)) STRICT"

pub item_creation : IsCreation (schema_by 1) create_item item_table
unfolding understood everything naming
item_creation = record { command = refl; text = refl; defined = refl; whole = (refl, refl, refl, refl); unsequenced = refl; utf8 = ((create_item, (refl, refl)), (item_table.name, (refl, refl))); new = refl }

pub makes_item : (old new : sql.State) (s : State) (count : ℕ) → Executes create_item [] old new (Ok count) → HoldsParts (parts_1 s) old.now → HoldsBeside [] s new.now
makes_item old new s count h has =
    let made = made_by old new create_item (schema_of (parts_1 s)) item_table has.known item_creation count h in
    record { parts = adds (parts_1 s) (item_part []) item_table _ _ refl refl refl made has; numbered = subst (AreNumbered 1) (sym made.empty) tt }

abbrev pub drop_incident : List ℕ
drop_incident = codes "DROP TABLE incident"

pub drops_incident : (old new : sql.State) (s : State) (items : List Row) (count : ℕ) → Executes drop_incident [] old new (Ok count) → HoldsBeside items s old.now → HoldsParts (without_incidents items s) new.now
unfolding understood everything
drops_incident old new s items count h has =
    let p = incident_part s in
    drops (in_versions_1_and_2 1 s) p (item_part items ∷ []) _ _ refl (dropped_by old new drop_incident (schema_of (with_items items s)) 9 p.table has.parts.known refl refl refl refl (refl, refl) count h) has.parts

-- a DROP, if no table has a row
pub incident_dropping : IsDropping beside_item drop_incident 9 (record incident_table { tree = 18 })
unfolding understood everything
incident_dropping = record { command = refl; listed = refl; quiet = refl; uncounted = refl; whole = (refl, refl, refl, refl); unreferred = refl }

abbrev pub create_incident_2 : List ℕ
create_incident_2 = codes "CREATE TABLE incident (number INTEGER PRIMARY KEY, source INTEGER NOT NULL, ident TEXT NOT NULL, revision INTEGER NOT NULL, UNIQUE (source, ident)) STRICT"

pub incident_creation_2 : IsCreation without_incident create_incident_2 incident_table_2
unfolding understood everything naming
incident_creation_2 = record { command = refl; text = refl; defined = refl; whole = (refl, refl, refl, refl); unsequenced = refl; utf8 = ((create_incident_2, (refl, refl)), (incident_table_2.name, (refl, refl))); new = refl }

pub makes_incident : (old new : sql.State) (s : State) (items : List Row) (count : ℕ) → Executes create_incident_2 [] old new (Ok count) → HoldsParts (without_incidents items s) old.now → HoldsParts (tables_2 1 items [] s) new.now
makes_incident old new s items count h has =
    adds (without_incidents items s) (incident_part_2 []) incident_table_2 _ _ refl refl refl (made_by old new create_incident_2 (schema_of (without_incidents items s)) incident_table_2 has.known incident_creation_2 count h) has

-- ---- rows are moved

-- the table of the lines is the last, after the tables of version 1
pub stands_items : (s : State) (items : List Row) → Stands (in_versions_1_and_2 1 s ++ incident_part s ∷ []) (item_part items) [] 10
stands_items s items = record { listed = refl; uncounted = refl; timeless = refl; alone = λ tree olds news. refl; apart = refl; same = λ rows. refl }

-- the lines that a text puts are in the table, and their rowids count on
pub lines_beside : (text : List ℕ) (params : Row) (rows items more : List Row) (s : State) → InsertsLines text params rows → IsPermutation (rows ++ items) more → (old new : sql.State) (count : ℕ) → Executes text params old new (Ok count) → HoldsBeside items s old.now → HoldsBeside more s new.now
lines_beside text params rows items more s put same old new count h has = record {
  parts = puts_rows (in_versions_1_and_2 1 s ++ incident_part s ∷ []) (item_part items) [] 10 (stands_items s items) text params (map bare rows) put rows (λ before. past_rowids before rows) more same old new count h has.parts;
  numbered = lines_count text params rows items s put old new count h has;
}

-- one line as the columns cast it
puts_one : (incident place : ℕ) (line : Line) → InsertsLines put_line (Int (pos incident) ∷ Int (pos place) ∷ line_shown line) (item_row (record { incident = incident; place = place; line = line }) ∷ [])
unfolding understood everything
puts_one incident place line = record {
  terms = line_terms 1;
  width = 8;
  command = refl;
  whole = (refl, refl, refl, refl);
  accepted = terms_accepted (Int (pos incident) ∷ placed_lines place (line ∷ [])) 1 1 (refl, lines_bound place (line ∷ []));
  given = cast_items [] (record { incident = incident; place = place; line = line } ∷ []);
}

pub moves_line : (old new : sql.State) (incident place : ℕ) (line : Line) (s : State) (items more : List Row) → IsPermutation (item_row (record { incident = incident; place = place; line = line }) ∷ items) more → (count : ℕ)
    → Executes put_line (Int (pos incident) ∷ Int (pos place) ∷ line_shown line) old new (Ok count) → HoldsBeside items s old.now → HoldsBeside more s new.now
moves_line old new incident place line s items more same count h has =
    lines_beside put_line _ (item_row (record { incident = incident; place = place; line = line }) ∷ []) items more s (puts_one incident place line) same old new count h has

-- one line fails only for a reason
pub line_fails : (incident place : ℕ) (line : Line) (s : State) (items more : List Row) → IsPermutation (item_row (record { incident = incident; place = place; line = line }) ∷ items) more → CanStand more
    → (old new : sql.State) (e : Error) → ExecutesInside 0 put_line (Int (pos incident) ∷ Int (pos place) ∷ line_shown line) old new (Err e) → HoldsBeside items s old.now → e ≢ SqliteFailure code.OutOfMemory → HasReason old new
line_fails incident place line s items more same can old new e h has other =
    let row = item_row (record { incident = incident; place = place; line = line }) in
    lines_fail put_line _ (row ∷ []) items s (puts_one incident place line) (stand_permuted more (row ∷ items) (IsPermutation-sym _ _ same) can) old new e h has other

-- ---- an incident without its lines

abbrev key : List ℕ
key = 2 ∷ 3 ∷ []

abbrev schema_2 : Schema
schema_2 = schema_by 2

abbrev incident_2 : Table
incident_2 = (incident_part_2 []).table

keyed : IsKeyed schema_2 incident_2 10 key
keyed =
    let writable : IsWritable schema_2 incident_2 10 = record { listed = refl; uncounted = refl; unreferred = refl } in
    record { writable = writable; own = refl; refers = refl; timeless = refl; exact = refl; narrow = refl }

fit : (k : Naming) → ShortNamingAs naming_row_2 k → IsFitRow schema_2 incident_2 key (naming_row_2 k)
fit k taken = record { rules = λ db. refl; numbered = refl; low = lt-ltb k.number (2 ^ 63) taken.1; exact = refl; wide = refl; short = taken.0; entry = omega (arith, taken.0) }

cast_naming : (k : Naming) → cast_row incident_2 (naming_row_2 k) ≡ naming_row_2 k
cast_naming k = rw (cast_int k.number, cast_int k.source, cast_int k.revision, cast_null) refl

inserts : (k : Naming) → IsInsert schema_2 incident_2 10 put_naming_2 (naming_shown_2 k) (naming_row_2 k ∷ [])
unfolding understood everything
inserts k = record {
  terms = col 0 0 ∷ lit Null ∷ col 0 1 ∷ col 0 2 ∷ col 0 3 ∷ [];
  width = 5;
  command = refl;
  whole = (refl, refl, refl, refl);
  accepted = refl;
  given = ap (λ r. r ∷ []) (cast_naming k);
}

pub naming_fails : (k : Naming) (s : State) (items incidents : List Row) → CanName naming_row_2 (naming_row_2 k ∷ incidents)
    → (old new : sql.State) (e : Error) → ExecutesInside 0 put_naming_2 (naming_shown_2 k) old new (Err e) → HoldsParts (tables_2 1 items incidents s) old.now → e ≢ SqliteFailure code.OutOfMemory → HasReason old new
naming_fails k s items incidents can old new e h has other =
    number_fails schema_2 incident_2 10 key keyed put_naming_2 (naming_shown_2 k) (naming_row_2 k) (inserts k) refl naming_row_2 (ShortNamingAs naming_row_2) fit incidents can
    old new e has.known has.whole has.means.1.1.1.1.1.1.1.1.1.1.0.same h other

stands_incidents : (s : State) (items incidents : List Row) → Stands (in_versions_1_and_2 1 s ++ item_part items ∷ []) (incident_part_2 incidents) [] 10
stands_incidents s items incidents = record { listed = refl; uncounted = refl; timeless = refl; alone = λ tree olds news. refl; apart = refl; same = λ rows. refl }

pub moves_naming : (old new : sql.State) (naming : Naming) (s : State) (items incidents more : List Row) → IsPermutation (naming_row_2 naming ∷ incidents) more → (count : ℕ)
    → Executes put_naming_2 (naming_shown_2 naming) old new (Ok count) → HoldsParts (tables_2 1 items incidents s) old.now → HoldsParts (tables_2 1 items more s) new.now
moves_naming old new naming s items incidents more same count h has =
    puts_rows (in_versions_1_and_2 1 s ++ item_part items ∷ []) (incident_part_2 incidents) [] 10 (stands_incidents s items incidents) put_naming_2 (naming_shown_2 naming) (naming_row_2 naming ∷ []) (inserts naming) (naming_row_2 naming ∷ []) (λ before. refl) more same old new count h has

-- one more of a list, whose rows are put one after another
pub one_more : {X : Type 0} (row : X → Row) (xs : List X) (i : ℕ) (x : X) → i < length xs → x ≡ get_or xs i x → IsPermutation (row x ∷ map row (take i xs)) (map row (take (i + 1) xs))
one_more row xs i x low is =
    let longer : take (i + 1) xs ≡ take i xs ++ x ∷ [] = take_more xs i x low ∙ ap (λ y. take i xs ++ y ∷ []) (sym is) in
    subst (λ l. IsPermutation (row x ∷ map row (take i xs)) (map row l)) (sym longer)
    (subst (IsPermutation (row x ∷ map row (take i xs))) (sym (map-append row (take i xs) (x ∷ []))) (IsPermutation-append_comm (row x ∷ []) (map row (take i xs))))
