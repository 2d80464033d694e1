-- What the texts that read whole tables mean under the schema.
use Rattle.{std.proofs.Common.{[], ◌∷◌, codes, refl}, sqlite_tied.specs.Compute.everything, sqlite.specs.Listing.understood, hub_store.proofs.Rows.Forms.Asks}
use Rattle.hub_store.proofs.Rows.{Forms.lists, Places.{community_tree, gate_tree, grp_tree, incident_tree, org_tree, pair_tree, permission_tree, person_tree}}
use Rattle.hub_store.proofs.Rows.Places.{recipient_tree}

pub all_orgs_is : Asks (codes "SELECT number, name FROM org ORDER BY number") (lists (0 ∷ []) org_tree [] (0 ∷ 2 ∷ []))
unfolding understood everything
all_orgs_is = record { names = _; is = refl; plain = (refl, refl); unlisted = refl }

pub all_persons_is : Asks (codes "SELECT number, org, name, role, active, nominated, key FROM person ORDER BY number")
    (lists (0 ∷ []) person_tree [] (0 ∷ 2 ∷ 3 ∷ 4 ∷ 6 ∷ 7 ∷ 5 ∷ []))
unfolding understood everything
all_persons_is = record { names = _; is = refl; plain = (refl, refl); unlisted = refl }

pub all_communities_is : Asks (codes "SELECT number, name FROM community ORDER BY number")
    (lists (0 ∷ []) community_tree [] (0 ∷ 2 ∷ []))
unfolding understood everything
all_communities_is = record { names = _; is = refl; plain = (refl, refl); unlisted = refl }

pub all_groups_is : Asks (codes "SELECT number, owner, name, releasability, active FROM grp ORDER BY number")
    (lists (0 ∷ []) grp_tree [] (0 ∷ 2 ∷ 3 ∷ 4 ∷ 5 ∷ []))
unfolding understood everything
all_groups_is = record { names = _; is = refl; plain = (refl, refl); unlisted = refl }

pub all_pairs_is : Asks (codes "SELECT a, b, value FROM pair WHERE kind = ?1 ORDER BY a, b")
    (lists (2 ∷ 3 ∷ []) pair_tree (1 ∷ []) (2 ∷ 3 ∷ 4 ∷ []))
unfolding understood everything
all_pairs_is = record { names = _; is = refl; plain = (refl, refl); unlisted = refl }

pub all_namings_is : Asks (codes "SELECT number, source, ident, revision, community FROM incident ORDER BY number")
    (lists (0 ∷ []) incident_tree [] (0 ∷ 2 ∷ 3 ∷ 4 ∷ 5 ∷ []))
unfolding understood everything
all_namings_is = record { names = _; is = refl; plain = (refl, refl); unlisted = refl }

pub all_gates_is : Asks (codes "SELECT incident, path, level, grp FROM gate ORDER BY incident, path")
    (lists (1 ∷ 2 ∷ []) gate_tree [] (1 ∷ 2 ∷ 3 ∷ 4 ∷ []))
unfolding understood everything
all_gates_is = record { names = _; is = refl; plain = (refl, refl); unlisted = refl }

pub all_recipients_is : Asks (codes "SELECT incident, kind, target FROM recipient ORDER BY incident, kind, target")
    (lists (1 ∷ 2 ∷ 3 ∷ []) recipient_tree [] (1 ∷ 2 ∷ 3 ∷ []))
unfolding understood everything
all_recipients_is = record { names = _; is = refl; plain = (refl, refl); unlisted = refl }

pub all_permissions_is : Asks
    (codes "SELECT incident, path, kind, target, until FROM permission ORDER BY incident, path, kind, target")
    (lists (1 ∷ 2 ∷ 3 ∷ 4 ∷ []) permission_tree [] (1 ∷ 2 ∷ 3 ∷ 4 ∷ 5 ∷ []))
unfolding understood everything
all_permissions_is = record { names = _; is = refl; plain = (refl, refl); unlisted = refl }
