-- What the statements on lines and incidents make of the state, one after another, and tests of rows as tests of elements.
use Rattle.std.{proofs.Common.{◌≡◌, ℕ, pos, List, [], ◌∷◌, ◌++◌, map, filter, not, ◌==◌, Ok, refl, ap, subst, ◌∙◌}, specs.List.Sorted.IsPermutation}
use Rattle.{sqlite_value.specs.{Order.Row, declared.value.Value.TheVariants.{Null, Int, Text}}, sqlite.specs.{Effect.Database, State.{State, Executes}}}
use Rattle.{iodef_tree.specs.{Pointer.pointer_text, Text.same_path, declared.line.Line.Line}, hub_state.{proofs.Indexing.paths_by_pointers, specs.Edits.edited}}
use Rattle.hub_state.specs.{State.{is_gate_at, is_recipient_being, is_permission_being, target_key, grantee_key}, declared.edit.Edit.TheVariants.PutIncident}
use Rattle.hub_state.specs.declared.{edit.Edit.TheVariants.TakeIncident, request.Target.Target, state.{Gate.Gate, GateKey.GateKey, Incident.Incident}}
use Rattle.hub_state.specs.declared.state.{Naming.Naming, Permission.Permission, PermissionKey.PermissionKey, Recipient.Recipient}
use Rattle.hub_store.proofs.Rows.{Compare.{begins, and-true, equal_numbers, equal_texts, cast_int, cast_null, cast_option, cast_flag, past}, Forms.is_param}
use Rattle.hub_store.proofs.Rows.{Found.filter_rows, Items.items_passing, LineRows.stands_between, PartRows.Stands, Places.{item_place, incident_place}}
use Rattle.hub_store.proofs.Rows.{SetKinds.{as_parts, from_parts}, Texts.{put_naming, put_naming_is, put_line, put_line_is, take_lines, take_lines_is}}
use Rattle.hub_store.{proofs.Rows.Texts.{line_terms, take_incident, take_incident_is}, specs.{Fit.IsFit, Items.{Item, items_in, items_of, item_row}}}
use Rattle.hub_store.specs.{Items.{line_shown, kind_number}, Layout.{newest, newest_tables, in_every_version, item_part, behind_items, incident_part_4}}
use Rattle.hub_store.specs.{Layout.permission_part_3, Means.{Holds, HoldsBetween}, Parts.{Part, HoldsParts}, Rows.{naming_row, named_row, gate_row}}
use Rattle.hub_store.specs.{Rows.{recipient_row, permission_row}, Values.number_or_null}
use Rattle.hub_state.specs.State as core
use Rattle.hub_store.proofs.Rows.PartRows as part

-- ---- tests of rows are tests of elements

pub gate_test : (key : GateKey) (g : Gate) → begins 0 (Int (pos key.incident) ∷ Text (pointer_text key.path) ∷ []) (gate_row g) ≡ is_gate_at key g
gate_test key g = rw (equal_numbers g.incident key.incident, equal_texts (pointer_text g.gate.path) (pointer_text key.path), paths_by_pointers g.gate.path key.path, and-true (same_path g.gate.path key.path)) refl

pub recipient_test : (n : ℕ) (target : Target) (r : Recipient) → begins 0 (Int (pos n) ∷ Int (pos (target_key target).0) ∷ Int (pos (target_key target).1) ∷ []) (recipient_row r) ≡ is_recipient_being n target r
recipient_test n target r = rw (equal_numbers r.incident n, equal_numbers (target_key r.target).0 (target_key target).0, equal_numbers (target_key r.target).1 (target_key target).1, and-true ((target_key r.target).1 == (target_key target).1)) refl

pub permission_test : (key : PermissionKey) (x : Permission) → begins 0 (Int (pos key.incident) ∷ Text (pointer_text key.path) ∷ Int (pos (grantee_key key.grantee).0) ∷ Int (pos (grantee_key key.grantee).1) ∷ []) (permission_row x) ≡ is_permission_being key x
permission_test key x =
    rw (equal_numbers x.incident key.incident, equal_texts (pointer_text x.permission.path) (pointer_text key.path), paths_by_pointers x.permission.path key.path, equal_numbers (grantee_key x.permission.grantee).0 (grantee_key key.grantee).0, equal_numbers (grantee_key x.permission.grantee).1 (grantee_key key.grantee).1, and-true ((grantee_key x.permission.grantee).1 == (grantee_key key.grantee).1)) refl

-- ---- an incident and its lines, one statement after another

between_parts : (db : Database) (s : core.State) (items incidents : List Row) → HoldsBetween items incidents db s
    → HoldsParts (newest_tables items incidents s) db
between_parts db s items incidents held = record { known = held.known; whole = held.whole; means = held.means }

parts_between : (db : Database) (s : core.State) (items incidents : List Row) → IsFit s
    → HoldsParts (newest_tables items incidents s) db → HoldsBetween items incidents db s
parts_between db s items incidents fit held = record { known = held.known; whole = held.whole; means = held.means; fit = fit }

-- the parts before that of the incidents
abbrev before : List Row → core.State → List Part
before items s = in_every_version newest s ++ item_part items ∷ permission_part_3 (map permission_row s.permissions) ∷ []

stands_last : (items incidents : List Row) (s : core.State) → Stands (before items s) (incident_part_4 incidents) [] incident_place
stands_last items incidents s =
    record { listed = refl; uncounted = refl; timeless = refl; alone = λ _ _ _. refl; apart = refl; same = λ _. refl }

pub puts_naming : (old new : State) (naming : Naming) (count : ℕ)
    → Executes put_naming (Int (pos naming.number) ∷ Int (pos naming.source) ∷ Text naming.ident ∷ Int (pos naming.revision) ∷
    number_or_null naming.community ∷ []) old new (Ok count)
    → (s : core.State) (items incidents more : List Row) → IsPermutation (naming_row naming ∷ incidents) more
    → HoldsBetween items incidents old.now s → HoldsBetween items more new.now s
puts_naming old new naming count h s items incidents more same held =
    parts_between new.now s items more held.fit
    (part.puts (before items s) (incident_part_4 incidents) [] incident_place (stands_last items incidents s) put_naming _ old new
    put_naming_is.plain count h (between_parts old.now s items incidents held) _ _ put_naming_is.is (naming_row naming) refl
    (rw (cast_int naming.number, cast_int naming.source, cast_int naming.revision, cast_option naming.community, cast_null) refl)
    (naming_row naming) (λ rows. refl) more same)

pub puts_line : (old new : State) (incident place : ℕ) (line : Line) (count : ℕ)
    → Executes put_line (Int (pos incident) ∷ Int (pos place) ∷ line_shown line) old new (Ok count)
    → (s : core.State) (incidents items more : List Row)
    → IsPermutation (item_row (record { incident = incident; place = place; line = line }) ∷ items) more
    → HoldsBetween items incidents old.now s → HoldsBetween more incidents new.now s
puts_line old new incident place line count h s incidents items more same held =
    let row = item_row (record { incident = incident; place = place; line = line }) in
    parts_between new.now s more incidents held.fit
    (part.puts (in_every_version newest s) (item_part items) (behind_items s incidents) item_place
    (stands_between s items incidents) put_line _ old new put_line_is.plain count h
    (between_parts old.now s items incidents held) (line_terms 1) 8 put_line_is.is (Null ∷ row) refl
    (rw (cast_int incident, cast_int place, cast_int line.depth, cast_flag line.in_array, cast_int (kind_number line.kind), cast_null) refl)
    row (λ rows. refl) more same)

pub takes_lines : (old new : State) (n : ℕ) (count : ℕ) → Executes take_lines (Int (pos n) ∷ []) old new (Ok count)
    → (s : core.State) → Holds old.now s
    → HoldsBetween (map item_row (filter (λ (x : Item). not (x.incident == n)) (items_of s))) (map named_row s.incidents) new.now s
takes_lines old new n count h s held =
    let params = Int (pos n) ∷ [] in
    let incidents = map named_row s.incidents in
    let left = map item_row (filter (λ (x : Item). not (x.incident == n)) (items_of s)) in
    parts_between new.now s left incidents held.fit
    (part.takes (in_every_version newest s) (item_part (map item_row (items_of s))) (behind_items s incidents) item_place
    (stands_between s (map item_row (items_of s)) incidents) take_lines _ old new take_lines_is.plain count h
    (as_parts old.now s held) (is_param 1 0 ∷ []) take_lines_is.is (begins 0 params) (past 0 (0 ∷ []) params) left
    (filter_rows item_row (λ r. not (begins 0 params r)) (λ (x : Item). not (x.incident == n))
    (λ x. ap not (and-true _ ∙ equal_numbers x.incident n)) (items_of s)))

-- with its row and all lines the incident is there
pub with_incident : (db : Database) (i : Incident) (s : core.State)
    → HoldsBetween (map item_row (items_in (edited (PutIncident i) s).incidents)) (map named_row (edited (PutIncident i) s).incidents) db s
    → Holds db (edited (PutIncident i) s)
with_incident db i s held =
    let fit = held.fit in
    from_parts db (edited (PutIncident i) s) (record { known = held.known; whole = held.whole; means = held.means }) (record {
      orgs = fit.orgs;
      accounts = fit.accounts;
      communities = fit.communities;
      groups = fit.groups;
      gates = fit.gates;
    })

pub takes_incident : (old new : State) (n : ℕ) (count : ℕ) → Executes take_incident (Int (pos n) ∷ []) old new (Ok count)
    → (s : core.State)
    → HoldsBetween (map item_row (filter (λ (x : Item). not (x.incident == n)) (items_of s))) (map named_row s.incidents) old.now s
    → Holds new.now (edited (TakeIncident n) s)
takes_incident old new n count h s held =
    let params = Int (pos n) ∷ [] in
    let items = map item_row (filter (λ (x : Item). not (x.incident == n)) (items_of s)) in
    let left = filter (λ (i : Incident). not (i.naming.number == n)) s.incidents in
    let fit = held.fit in
    let taken = part.takes (before items s) (incident_part_4 (map named_row s.incidents)) [] incident_place
    (stands_last items (map named_row s.incidents) s) take_incident _ old new take_incident_is.plain count h
    (between_parts old.now s items (map named_row s.incidents) held) (is_param 0 0 ∷ []) take_incident_is.is (begins 0 params)
    (λ r. refl) (map named_row left)
    (filter_rows named_row (λ r. not (begins 0 params r)) (λ (i : Incident). not (i.naming.number == n))
    (λ i. ap not (and-true _ ∙ equal_numbers i.naming.number n)) s.incidents) in
    from_parts new.now (edited (TakeIncident n) s)
    (subst (λ (xs : List Item). HoldsParts (newest_tables (map item_row xs) (map named_row left) s) new.now)
    (items_passing (λ m. not (m == n)) s.incidents) taken) (record {
      orgs = fit.orgs;
      accounts = fit.accounts;
      communities = fit.communities;
      groups = fit.groups;
      gates = fit.gates;
    })
