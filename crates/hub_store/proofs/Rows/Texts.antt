-- What each text means under the schema. A text is written in the function that runs it and once more here, and its
-- meaning is computed.
use Rattle.{std.proofs.Common.{◌+◌, List, ℕ, [], ◌∷◌, codes, refl}, sqlite_value.specs.declared.value.Value.TheVariants.Null, sqlite_sql.specs.Term.{Term, lit}}
use Rattle.{sqlite_sql.specs.Term.col, sqlite_schema.specs.declared.command.{Command.TheVariants.Insert, Source.TheVariants.Values}}
use Rattle.{sqlite_tied.specs.Compute.everything, sqlite.specs.Listing.understood, hub_store.proofs.Rows.Forms.{Says, Asks, puts_numbered, puts_row}}
use Rattle.hub_store.proofs.Rows.{Forms.{takes_rows, exchanges_rows, is_above, by_column, one_table, finds, lists}, Places.{community_place, gate_place}}
use Rattle.hub_store.proofs.Rows.Places.{grp_place, incident_place, item_place, org_place, pair_place, permission_place, person_place, recipient_place}
use Rattle.hub_store.proofs.Rows.Places.{community_tree, gate_tree, grp_tree, incident_tree, item_tree, org_tree, pair_tree, permission_tree, person_tree}
use Rattle.hub_store.{proofs.Rows.Places.recipient_tree, specs.Pairs.{put_pair, take_pair}}

-- ---- rows are put

abbrev pub put_version : List ℕ
put_version = codes "INSERT INTO hub (version) VALUES (?1)"

pub put_org_is : Says (codes "INSERT INTO org (number, name) VALUES (?1, ?2)") (puts_numbered org_place 1)
unfolding understood everything
put_org_is = record { is = refl; plain = (refl, refl) }

pub put_person_is : Says
    (codes "INSERT INTO person (number, org, name, role, key, active, nominated) VALUES (?1, ?2, ?3, ?4, ?5, ?6, ?7)")
    (puts_numbered person_place 6)
unfolding understood everything
put_person_is = record { is = refl; plain = (refl, refl) }

pub put_community_is : Says (codes "INSERT INTO community (number, name) VALUES (?1, ?2)")
    (puts_numbered community_place 1)
unfolding understood everything
put_community_is = record { is = refl; plain = (refl, refl) }

pub put_group_is : Says
    (codes "INSERT INTO grp (number, owner, name, releasability, active) VALUES (?1, ?2, ?3, ?4, ?5)")
    (puts_numbered grp_place 4)
unfolding understood everything
put_group_is = record { is = refl; plain = (refl, refl) }

pub put_pair_is : Says put_pair (puts_row pair_place 4)
unfolding understood everything
put_pair_is = record { is = refl; plain = (refl, refl) }

pub put_gate_is : Says (codes "INSERT INTO gate (incident, path, level, grp) VALUES (?1, ?2, ?3, ?4)")
    (puts_row gate_place 4)
unfolding understood everything
put_gate_is = record { is = refl; plain = (refl, refl) }

pub put_recipient_is : Says (codes "INSERT INTO recipient (incident, kind, target) VALUES (?1, ?2, ?3)")
    (puts_row recipient_place 3)
unfolding understood everything
put_recipient_is = record { is = refl; plain = (refl, refl) }

pub put_permission_is : Says
    (codes "INSERT INTO permission (incident, path, kind, target, until) VALUES (?1, ?2, ?3, ?4, ?5)")
    (puts_row permission_place 5)
unfolding understood everything
put_permission_is = record { is = refl; plain = (refl, refl) }

abbrev pub put_naming : List ℕ
put_naming = codes "INSERT INTO incident (number, source, ident, revision, community) VALUES (?1, ?2, ?3, ?4, ?5)"

pub put_naming_is : Says put_naming (puts_numbered incident_place 4)
unfolding understood everything
put_naming_is = record { is = refl; plain = (refl, refl) }

-- without a community, as a migration puts it
abbrev pub put_naming_2 : List ℕ
put_naming_2 = codes "INSERT INTO incident (number, source, ident, revision) VALUES (?1, ?2, ?3, ?4)"

-- the columns of a line are the parameters from a place on, after the incident's
abbrev pub line_terms : ℕ → List Term
line_terms at =
    lit Null ∷ col 0 0 ∷ col 0 at ∷ col 0 (at + 1) ∷ col 0 (at + 2) ∷ col 0 (at + 3) ∷ col 0 (at + 4) ∷ col 0 (at + 5) ∷ []

abbrev pub put_line : List ℕ
put_line = codes "INSERT INTO item (incident, place, depth, name, in_array, kind, text) VALUES (?1, ?2, ?3, ?4, ?5, ?6, ?7)"

pub put_line_is : Says put_line (Insert item_place (Values (line_terms 1) 8))
unfolding understood everything
put_line_is = record { is = refl; plain = (refl, refl) }

-- ---- rows are removed

pub take_pair_is : Says take_pair (takes_rows pair_place (1 ∷ 2 ∷ 3 ∷ []))
unfolding understood everything
take_pair_is = record { is = refl; plain = (refl, refl) }

pub take_gate_is : Says (codes "DELETE FROM gate WHERE incident = ?1 AND path = ?2")
    (takes_rows gate_place (1 ∷ 2 ∷ []))
unfolding understood everything
take_gate_is = record { is = refl; plain = (refl, refl) }

pub take_gates_is : Says (codes "DELETE FROM gate WHERE incident = ?1") (takes_rows gate_place (1 ∷ []))
unfolding understood everything
take_gates_is = record { is = refl; plain = (refl, refl) }

pub take_recipient_is : Says (codes "DELETE FROM recipient WHERE incident = ?1 AND kind = ?2 AND target = ?3")
    (takes_rows recipient_place (1 ∷ 2 ∷ 3 ∷ []))
unfolding understood everything
take_recipient_is = record { is = refl; plain = (refl, refl) }

pub take_permission_is : Says
    (codes "DELETE FROM permission WHERE incident = ?1 AND path = ?2 AND kind = ?3 AND target = ?4")
    (takes_rows permission_place (1 ∷ 2 ∷ 3 ∷ 4 ∷ []))
unfolding understood everything
take_permission_is = record { is = refl; plain = (refl, refl) }

pub take_permissions_is : Says (codes "DELETE FROM permission WHERE incident = ?1")
    (takes_rows permission_place (1 ∷ []))
unfolding understood everything
take_permissions_is = record { is = refl; plain = (refl, refl) }

abbrev pub take_lines : List ℕ
take_lines = codes "DELETE FROM item WHERE incident = ?1"

pub take_lines_is : Says take_lines (takes_rows item_place (1 ∷ []))
unfolding understood everything
take_lines_is = record { is = refl; plain = (refl, refl) }

abbrev pub take_incident : List ℕ
take_incident = codes "DELETE FROM incident WHERE number = ?1"

pub take_incident_is : Says take_incident (takes_rows incident_place (0 ∷ []))
unfolding understood everything
take_incident_is = record { is = refl; plain = (refl, refl) }

-- ---- flags and keys are exchanged

pub set_active_is : Says (codes "UPDATE person SET active = ?2 WHERE number = ?1") (exchanges_rows person_place (0 ∷ [])
    (col 1 0 ∷ lit Null ∷ col 1 2 ∷ col 1 3 ∷ col 1 4 ∷ col 1 5 ∷ col 0 1 ∷ col 1 7 ∷ []))
unfolding understood everything
set_active_is = record { is = refl; plain = (refl, refl) }

pub set_nominated_is : Says (codes "UPDATE person SET nominated = ?2 WHERE number = ?1")
    (exchanges_rows person_place (0 ∷ [])
    (col 1 0 ∷ lit Null ∷ col 1 2 ∷ col 1 3 ∷ col 1 4 ∷ col 1 5 ∷ col 1 6 ∷ col 0 1 ∷ []))
unfolding understood everything
set_nominated_is = record { is = refl; plain = (refl, refl) }

pub set_key_is : Says (codes "UPDATE person SET key = ?2 WHERE number = ?1") (exchanges_rows person_place (0 ∷ [])
    (col 1 0 ∷ lit Null ∷ col 1 2 ∷ col 1 3 ∷ col 1 4 ∷ col 0 1 ∷ col 1 6 ∷ col 1 7 ∷ []))
unfolding understood everything
set_key_is = record { is = refl; plain = (refl, refl) }

pub set_group_active_is : Says (codes "UPDATE grp SET active = ?2 WHERE number = ?1")
    (exchanges_rows grp_place (0 ∷ []) (col 1 0 ∷ lit Null ∷ col 1 2 ∷ col 1 3 ∷ col 1 4 ∷ col 0 1 ∷ []))
unfolding understood everything
set_group_active_is = record { is = refl; plain = (refl, refl) }

-- ---- rows are read

pub person_with_key_is : Asks (codes "SELECT number, org, name, role, active, nominated FROM person WHERE key = ?1")
    (finds person_tree (5 ∷ []) (0 ∷ 2 ∷ 3 ∷ 4 ∷ 6 ∷ 7 ∷ []))
unfolding understood everything
person_with_key_is = record { names = _; is = refl; plain = (refl, refl); unlisted = refl }

pub person_with_number_is : Asks
    (codes "SELECT number, org, name, role, active, nominated FROM person WHERE number = ?1")
    (finds person_tree (0 ∷ []) (0 ∷ 2 ∷ 3 ∷ 4 ∷ 6 ∷ 7 ∷ []))
unfolding understood everything
person_with_number_is = record { names = _; is = refl; plain = (refl, refl); unlisted = refl }

pub org_with_number_is : Asks (codes "SELECT number FROM org WHERE number = ?1") (finds org_tree (0 ∷ []) (0 ∷ []))
unfolding understood everything
org_with_number_is = record { names = _; is = refl; plain = (refl, refl); unlisted = refl }

pub org_with_name_is : Asks (codes "SELECT number FROM org WHERE name = ?1") (finds org_tree (2 ∷ []) (0 ∷ []))
unfolding understood everything
org_with_name_is = record { names = _; is = refl; plain = (refl, refl); unlisted = refl }

pub community_with_number_is : Asks (codes "SELECT number FROM community WHERE number = ?1")
    (finds community_tree (0 ∷ []) (0 ∷ []))
unfolding understood everything
community_with_number_is = record { names = _; is = refl; plain = (refl, refl); unlisted = refl }

pub community_and_name_is : Asks (codes "SELECT number, name FROM community WHERE number = ?1")
    (finds community_tree (0 ∷ []) (0 ∷ 2 ∷ []))
unfolding understood everything
community_and_name_is = record { names = _; is = refl; plain = (refl, refl); unlisted = refl }

pub community_with_name_is : Asks (codes "SELECT number FROM community WHERE name = ?1")
    (finds community_tree (2 ∷ []) (0 ∷ []))
unfolding understood everything
community_with_name_is = record { names = _; is = refl; plain = (refl, refl); unlisted = refl }

pub group_with_number_is : Asks (codes "SELECT number, owner, name, releasability, active FROM grp WHERE number = ?1")
    (finds grp_tree (0 ∷ []) (0 ∷ 2 ∷ 3 ∷ 4 ∷ 5 ∷ []))
unfolding understood everything
group_with_number_is = record { names = _; is = refl; plain = (refl, refl); unlisted = refl }

pub group_with_name_is : Asks (codes "SELECT number FROM grp WHERE owner = ?1 AND name = ?2")
    (finds grp_tree (2 ∷ 3 ∷ []) (0 ∷ []))
unfolding understood everything
group_with_name_is = record { names = _; is = refl; plain = (refl, refl); unlisted = refl }

pub pair_with_both_is : Asks (codes "SELECT value FROM pair WHERE kind = ?1 AND a = ?2 AND b = ?3")
    (finds pair_tree (1 ∷ 2 ∷ 3 ∷ []) (4 ∷ []))
unfolding understood everything
pair_with_both_is = record { names = _; is = refl; plain = (refl, refl); unlisted = refl }

pub pairs_with_first_is : Asks (codes "SELECT b, value FROM pair WHERE kind = ?1 AND a = ?2 ORDER BY b")
    (lists (3 ∷ []) pair_tree (1 ∷ 2 ∷ []) (3 ∷ 4 ∷ []))
unfolding understood everything
pairs_with_first_is = record { names = _; is = refl; plain = (refl, refl); unlisted = refl }

pub pairs_with_second_is : Asks (codes "SELECT a, value FROM pair WHERE kind = ?1 AND b = ?2 ORDER BY a")
    (lists (2 ∷ []) pair_tree (1 ∷ 3 ∷ []) (2 ∷ 4 ∷ []))
unfolding understood everything
pairs_with_second_is = record { names = _; is = refl; plain = (refl, refl); unlisted = refl }

pub gates_of_incident_is : Asks (codes "SELECT path, level, grp FROM gate WHERE incident = ?1 ORDER BY path")
    (lists (2 ∷ []) gate_tree (1 ∷ []) (2 ∷ 3 ∷ 4 ∷ []))
unfolding understood everything
gates_of_incident_is = record { names = _; is = refl; plain = (refl, refl); unlisted = refl }

pub recipients_of_incident_is : Asks
    (codes "SELECT kind, target FROM recipient WHERE incident = ?1 ORDER BY kind, target")
    (lists (2 ∷ 3 ∷ []) recipient_tree (1 ∷ []) (2 ∷ 3 ∷ []))
unfolding understood everything
recipients_of_incident_is = record { names = _; is = refl; plain = (refl, refl); unlisted = refl }

pub permissions_of_incident_is : Asks
    (codes "SELECT path, kind, target, until FROM permission WHERE incident = ?1 ORDER BY path, kind, target")
    (lists (2 ∷ 3 ∷ 4 ∷ []) permission_tree (1 ∷ []) (2 ∷ 3 ∷ 4 ∷ 5 ∷ []))
unfolding understood everything
permissions_of_incident_is = record { names = _; is = refl; plain = (refl, refl); unlisted = refl }

pub incident_with_number_is : Asks
    (codes "SELECT number, source, ident, revision, community FROM incident WHERE number = ?1")
    (finds incident_tree (0 ∷ []) (0 ∷ 2 ∷ 3 ∷ 4 ∷ 5 ∷ []))
unfolding understood everything
incident_with_number_is = record { names = _; is = refl; plain = (refl, refl); unlisted = refl }

abbrev pub lines_of_incident : List ℕ
lines_of_incident = codes "SELECT place, depth, name, in_array, kind, text FROM item WHERE incident = ?1 ORDER BY place"

pub lines_of_incident_is : Asks lines_of_incident (lists (2 ∷ []) item_tree (1 ∷ []) (2 ∷ 3 ∷ 4 ∷ 5 ∷ 6 ∷ 7 ∷ []))
unfolding understood everything
lines_of_incident_is = record { names = _; is = refl; plain = (refl, refl); unlisted = refl }

pub incident_with_ident_is : Asks (codes "SELECT number FROM incident WHERE source = ?1 AND ident = ?2")
    (finds incident_tree (2 ∷ 3 ∷ []) (0 ∷ []))
unfolding understood everything
incident_with_ident_is = record { names = _; is = refl; plain = (refl, refl); unlisted = refl }

pub incidents_above_is : Asks
    (codes "SELECT number, revision, source FROM incident WHERE number > ?1 ORDER BY number LIMIT ?2")
    (record (one_table incident_tree (is_above 0 0 ∷ []) (col 1 0 ∷ col 1 4 ∷ col 1 2 ∷ []))
    { order = by_column 0 ∷ []; limit = col 0 1 })
unfolding understood everything
incidents_above_is = record { names = _; is = refl; plain = (refl, refl); unlisted = refl }
