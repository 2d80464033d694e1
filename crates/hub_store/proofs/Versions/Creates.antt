-- The statements that make the tables.
use Rattle.std.proofs.Common.{◌≡◌, ℕ, List, [], ◌∷◌, ◌++◌, false, Result, OnOk, IfErr, Ok, IsTrue, None, codes, refl, sym, ap, subst, ◌∙◌}
use Rattle.{std.specs.List.AllByRecursion, sqlite_trees.specs.Tree.Trees, sqlite_schema.specs.declared.command.Command.TheVariants.CreateTable}
use Rattle.{sqlite_schema.specs.declared.schema.{Schema.Schema, Table.Table}, sqlite_catalog.specs.Change.{created, next_tree, KeepsRows}}
use Rattle.{sqlite_tied.specs.Compute.everything, sqlite.{proofs.Callers.runs_as, specs.{Does.{Tally, lacks_sequence}, Effect.{Database, IsDatabase}}}}
use Rattle.sqlite.specs.{Held.{Held, state}, Listing.understood, State.{State, HasCleanDisk, Writes, Executes}, declared.error.Error.Error}
use Rattle.hub_store.proofs.{Edits.Steps.created_by, Rows.Statements.{same_ok, went}, Versions.Causes.{IsCreation, naming, plain_of, fails_for_reason}}
use Rattle.hub_store.specs.{Keeps.{Goes, HasRun, HasFailed}, Tables.{no_schema, up_to_hub, up_to_org, up_to_person, up_to_community, up_to_grp, up_to_pair}}
use Rattle.hub_store.specs.Tables.{up_to_gate, up_to_recipient, up_to_permission, hub_table, org_table, person_table, community_table, grp_table, pair_table}
use Rattle.hub_store.specs.{Tables.{gate_table, recipient_table, permission_table, incident_table}, inner.Makes.{HasEmpty, Creates}}
use Rattle.sqlite_trees.specs.declared.store.Store as store

-- a table is added without a row
pub record Made (schema : Schema) (table : Table) (old new : Database) : Type 0 where
  pub schema_is : new.schema ≡ created schema table
  pub whole : IsDatabase new
  pub empty : new.trees (next_tree schema) ≡ []
  pub others : KeepsRows schema.tables old.trees new.trees

pub made_by : (old new : State) (sql : List ℕ) (schema : Schema) (table : Table) → old.now.schema ≡ schema → IsCreation schema sql table → (count : ℕ) → Executes sql [] old new (Ok count) → Made schema table old.now new.now
made_by old new sql schema table has it count h =
    let w = subst (λ t. Writes old new None CreateTable t [] count) it.text (runs_as sql [] old new schema has CreateTable it.command (plain_of sql [] _ it.whole) count h) in
    let all = went w.changed in
    let first = went all.1 in
    let made = first.1 in
    let both : Ok made.table ≡ Ok table = sym made.defined ∙ it.defined in
    let same : made.table ≡ table = cc in
    let schema_is : first.0.schema ≡ created schema table = made.is ∙ ap (λ s. created s made.table) has ∙ ap (created schema) same in
    let quiet : lacks_sequence first.0.schema ≡ false = ap lacks_sequence schema_is ∙ it.unsequenced in
    let now : new.now ≡ first.0 = ap (λ (p : Tally × Database). p.1) (same_ok all.2) ∙ same_ok (rw quiet at first.2) in
    record {
      schema_is = ap (λ (d : Database). d.schema) now ∙ schema_is;
      whole = w.sound;
      empty = ap (λ (d : Database). d.trees (next_tree schema)) now ∙ subst (λ s. first.0.trees (next_tree s) ≡ []) has made.empty;
      others = subst (λ (d : Database). KeepsRows schema.tables old.now.trees d.trees) (sym now) (subst (λ s. KeepsRows s.tables old.now.trees first.0.trees) has made.others);
    }

-- the others are as empty as before
still_empty : (ts : List Table) (last : Table) (old new : Trees) → KeepsRows ts old new → AllByRecursion (λ (t : Table). old t.tree ≡ []) ts → new last.tree ≡ [] → AllByRecursion (λ (t : Table). new t.tree ≡ []) (ts ++ last ∷ [])
still_empty [] last old new keeps empty one = (one, tt)
still_empty (t ∷ ts) last old new keeps empty one = (keeps.0 ∙ empty.0, still_empty ts last old new keeps.1 empty.1 one)

more : (schema : Schema) (table : Table) (old new : Database) → Made schema table old new → HasEmpty schema old → HasEmpty (created schema table) new
more schema table old new made has = record {
  known = made.schema_is;
  whole = λ some. made.whole;
  empty = still_empty schema.tables (record table { tree = next_tree schema }) old.trees new.trees made.others has.empty made.empty;
}

-- the text that was run creates the table, or there is a reason
pub creates : {S : Type 0} (g : store.Ghosts S) (schema : Schema) (sql : List ℕ) (table : Table) → IsCreation schema sql table → (old new : Held S) {T : Type 0} (result : Result T Error) → Goes (state g old) (state g new) result
    → (HasCleanDisk (state g new) → IsTrue (state g old).in_transaction → OnOk result (HasRun g sql [] old new)) → (HasCleanDisk (state g new) → IsTrue (state g old).in_transaction → IfErr result (HasFailed g sql [] old new))
    → Creates (state g old) (state g new) (HasEmpty schema) (HasEmpty (created schema table)) result
creates g schema sql table it old new result goes ran failed =
    created_by g sql [] old new (HasEmpty schema) (HasEmpty (created schema table)) result goes ran failed
    (λ mid count h has. more schema table mid.now (state g new).now (made_by mid (state g new) sql schema table has.known it count h) has)
    (λ mid e h has other. fails_for_reason schema sql table it mid (state g new) has.known e other h)

abbrev pub create_hub : List ℕ
create_hub = codes "CREATE TABLE hub (version INTEGER NOT NULL) STRICT"

pub hub_creation : IsCreation no_schema create_hub hub_table
unfolding understood everything naming
hub_creation = record { command = refl; text = refl; defined = refl; whole = (refl, refl, refl, refl); unsequenced = refl; utf8 = ((create_hub, (refl, refl)), (hub_table.name, (refl, refl))); new = refl }

abbrev pub create_org : List ℕ
create_org = codes "CREATE TABLE org (number INTEGER PRIMARY KEY, name TEXT NOT NULL UNIQUE) STRICT"

pub org_creation : IsCreation up_to_hub create_org org_table
unfolding understood everything naming
org_creation = record { command = refl; text = refl; defined = refl; whole = (refl, refl, refl, refl); unsequenced = refl; utf8 = ((create_org, (refl, refl)), (org_table.name, (refl, refl))); new = refl }

abbrev pub create_person : List ℕ
create_person = codes "CREATE TABLE person (number INTEGER PRIMARY KEY, org INTEGER NOT NULL, name TEXT NOT NULL, role INTEGER NOT NULL, key BLOB NOT NULL UNIQUE, active INTEGER NOT NULL, nominated INTEGER NOT NULL) STRICT"

pub person_creation : IsCreation up_to_org create_person person_table
unfolding understood everything naming
person_creation = record { command = refl; text = refl; defined = refl; whole = (refl, refl, refl, refl); unsequenced = refl; utf8 = ((create_person, (refl, refl)), (person_table.name, (refl, refl))); new = refl }

abbrev pub create_community : List ℕ
create_community = codes "CREATE TABLE community (number INTEGER PRIMARY KEY, name TEXT NOT NULL UNIQUE) STRICT"

pub community_creation : IsCreation up_to_person create_community community_table
unfolding understood everything naming
community_creation = record { command = refl; text = refl; defined = refl; whole = (refl, refl, refl, refl); unsequenced = refl; utf8 = ((create_community, (refl, refl)), (community_table.name, (refl, refl))); new = refl }

abbrev pub create_grp : List ℕ
create_grp = codes "CREATE TABLE grp (number INTEGER PRIMARY KEY, owner INTEGER NOT NULL, name TEXT NOT NULL, releasability TEXT NOT NULL, active INTEGER NOT NULL, UNIQUE (owner, name)) STRICT"

pub grp_creation : IsCreation up_to_community create_grp grp_table
unfolding understood everything naming
grp_creation = record { command = refl; text = refl; defined = refl; whole = (refl, refl, refl, refl); unsequenced = refl; utf8 = ((create_grp, (refl, refl)), (grp_table.name, (refl, refl))); new = refl }

abbrev pub create_pair : List ℕ
create_pair = codes "CREATE TABLE pair (kind TEXT NOT NULL, a INTEGER NOT NULL, b INTEGER NOT NULL, value INTEGER, UNIQUE (kind, a, b), UNIQUE (kind, b, a)) STRICT"

pub pair_creation : IsCreation up_to_grp create_pair pair_table
unfolding understood everything naming
pair_creation = record { command = refl; text = refl; defined = refl; whole = (refl, refl, refl, refl); unsequenced = refl; utf8 = ((create_pair, (refl, refl)), (pair_table.name, (refl, refl))); new = refl }

abbrev pub create_gate : List ℕ
create_gate = codes "CREATE TABLE gate (incident INTEGER NOT NULL, path TEXT NOT NULL, level INTEGER NOT NULL, grp INTEGER, UNIQUE (incident, path)) STRICT"

pub gate_creation : IsCreation up_to_pair create_gate gate_table
unfolding understood everything naming
gate_creation = record { command = refl; text = refl; defined = refl; whole = (refl, refl, refl, refl); unsequenced = refl; utf8 = ((create_gate, (refl, refl)), (gate_table.name, (refl, refl))); new = refl }

abbrev pub create_recipient : List ℕ
create_recipient = codes "CREATE TABLE recipient (incident INTEGER NOT NULL, kind INTEGER NOT NULL, target INTEGER NOT NULL, UNIQUE (incident, kind, target)) STRICT"

pub recipient_creation : IsCreation up_to_gate create_recipient recipient_table
unfolding understood everything naming
recipient_creation = record { command = refl; text = refl; defined = refl; whole = (refl, refl, refl, refl); unsequenced = refl; utf8 = ((create_recipient, (refl, refl)), (recipient_table.name, (refl, refl))); new = refl }

abbrev pub create_permission : List ℕ
create_permission = codes "CREATE TABLE permission (incident INTEGER NOT NULL, path TEXT NOT NULL, kind INTEGER NOT NULL, target INTEGER NOT NULL, UNIQUE (incident, path, kind, target)) STRICT"

pub permission_creation : IsCreation up_to_recipient create_permission permission_table
unfolding understood everything naming
permission_creation = record { command = refl; text = refl; defined = refl; whole = (refl, refl, refl, refl); unsequenced = refl; utf8 = ((create_permission, (refl, refl)), (permission_table.name, (refl, refl))); new = refl }

abbrev pub create_incident : List ℕ
create_incident = codes "CREATE TABLE incident (number INTEGER PRIMARY KEY, source INTEGER NOT NULL, ident TEXT NOT NULL, revision INTEGER NOT NULL, text TEXT NOT NULL, UNIQUE (source, ident)) STRICT"

pub incident_creation : IsCreation up_to_permission create_incident incident_table
unfolding understood everything naming
incident_creation = record { command = refl; text = refl; defined = refl; whole = (refl, refl, refl, refl); unsequenced = refl; utf8 = ((create_incident, (refl, refl)), (incident_table.name, (refl, refl))); new = refl }
