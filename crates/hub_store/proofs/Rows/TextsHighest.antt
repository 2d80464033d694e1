-- What the texts mean that ask for the highest number.
use Rattle.{std.proofs.Common.{ℕ, pos, [], ◌∷◌, true, codes, refl}, sqlite_value.specs.declared.keys.Collation.TheVariants.Binary}
use Rattle.{sqlite_value.specs.declared.value.Value.TheVariants.Int, sqlite_sql.specs.{Query.Query, Term.{lit, col, op2}}}
use Rattle.{sqlite_sql.specs.declared.ops.{BinaryOp.TheVariants.Compare, CompareOp.TheVariants.Gt}, sqlite_tied.specs.Compute.everything}
use Rattle.{sqlite.specs.Listing.understood, hub_store.proofs.Rows.{Forms.{Asks, one_table}, Places.{community_tree, grp_tree, incident_tree, org_tree}}}
use Rattle.hub_store.proofs.Rows.Places.{person_tree}

-- the first of the numbers above 0, from the highest down
abbrev pub highest_query : ℕ → Query
highest_query tree =
    record (one_table tree (op2 (Compare Gt Binary) (col 1 0) (lit (Int (pos 0))) ∷ []) (col 1 0 ∷ [])) {
      order = (col 1 0, record { collation = Binary; descending = true }) ∷ [];
      limit = lit (Int (pos 1));
    }

pub highest_org_is : Asks (codes "SELECT number FROM org WHERE number > 0 ORDER BY number DESC LIMIT 1")
    (highest_query org_tree)
unfolding understood everything
highest_org_is = record { names = _; is = refl; plain = (refl, refl); unlisted = refl }

pub highest_person_is : Asks (codes "SELECT number FROM person WHERE number > 0 ORDER BY number DESC LIMIT 1")
    (highest_query person_tree)
unfolding understood everything
highest_person_is = record { names = _; is = refl; plain = (refl, refl); unlisted = refl }

pub highest_community_is : Asks (codes "SELECT number FROM community WHERE number > 0 ORDER BY number DESC LIMIT 1")
    (highest_query community_tree)
unfolding understood everything
highest_community_is = record { names = _; is = refl; plain = (refl, refl); unlisted = refl }

pub highest_group_is : Asks (codes "SELECT number FROM grp WHERE number > 0 ORDER BY number DESC LIMIT 1")
    (highest_query grp_tree)
unfolding understood everything
highest_group_is = record { names = _; is = refl; plain = (refl, refl); unlisted = refl }

pub highest_incident_is : Asks (codes "SELECT number FROM incident WHERE number > 0 ORDER BY number DESC LIMIT 1")
    (highest_query incident_tree)
unfolding understood everything
highest_incident_is = record { names = _; is = refl; plain = (refl, refl); unlisted = refl }
