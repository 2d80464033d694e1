-- What a query of a whole table lists in the order of its key.
use Rattle.std.{proofs.Common.{◌≡◌, ℕ, pos, negsuc, List, [], ◌∷◌, map, true, nat_cmp, refl, ap, ◌∙◌}, specs.Cmp.Lexicographic.slice_cmp}
use Rattle.std.specs.{Ordering.ordering_then, declared.cmp.Ordering.{Ordering, TheVariants.{Less, Equal, Greater}}}
use Rattle.sqlite_value.{proofs.OrderLemmas.{value_cmp-Int, value_cmp-Text}, specs.{Order.{Row, column}, declared.value.Value.TheVariants.Int}}
use Rattle.{sqlite_trees.specs.Tree.{Trees, IsAscending}, sqlite_sql.specs.{Query.{IsAnswer, Output, output_cmp}, Term.{Term, lit, col}}}
use Rattle.{iodef_tree.specs.Pointer.pointer_text, circle.specs.{Directory.{org_number, account_number, community_number, group_number}, Sound.CountsFrom}}
use Rattle.hub_state.specs.{Sound.IsSound, State.{incident_number, gate_cmp, recipient_cmp, permission_cmp, target_key, grantee_key}}
use Rattle.{hub_state.specs.declared.state.Incident.Incident, hub_store.proofs.LookUps.Listed.{listed, listed_past, in_order, columns_after, outs, int_below}}
use Rattle.hub_store.proofs.{LookUps.Placed.{int_as_nat, last_two, last_three}, Rows.{Forms.{one_table, by_column, ordered_by}, Found.{filter_all, map_each}}}
use Rattle.hub_store.proofs.Rows.Places.{org_place, org_tree, person_place, person_tree, community_place, community_tree, grp_place, grp_tree, incident_place}
use Rattle.hub_store.proofs.Rows.Places.{incident_tree, gate_place, gate_tree, recipient_place, recipient_tree, permission_place, permission_tree, held_of}
use Rattle.hub_store.{proofs.Rows.{Rising.{rising, counted}, Statements.shows}, specs.Holdings.{IsHeld, holding_by_number, holding_without_rowids}}
use Rattle.hub_store.specs.{Means.Means, Rows.{org_row, account_row, community_row, group_row, named_row, gate_row, recipient_row, permission_row}}
use Rattle.hub_store.specs.inner.{Adds.{org_shown, account_shown, community_shown, namings}, Shown.naming_shown, ShownPairs.group_shown}
use Rattle.hub_state.specs.State as core

-- ---- rows with a number

module _ {X : Type 0} (db : Trees) (tree : ℕ) (row shown : X → Row) (number : X → ℕ) (project : List Term) (first : (x : X) → column (row x) 0 ≡ Int (pos (number x))) (same : (x : X) → shows project [] (row x) ≡ shown x) where
  -- all elements of a set whose rows have numbers
  numbered_listed : (xs : List X) (rows : List Row) → CountsFrom number 0 xs → IsHeld db (holding_by_number tree row xs) → IsAnswer (ordered_by (by_column 0 ∷ []) (one_table tree [] project)) db [] rows → rows ≡ map shown xs
  numbered_listed xs rows counts held a =
      let out : Row → Output = λ r. (column r 0 ∷ [], shows project [] r) in
      listed db tree (λ r. r) row xs (λ x. true) [] project (by_column 0 ∷ []) (lit (Int (negsuc 0))) [] (λ r. true) out rows (λ r. refl) (λ r. refl) (λ x. refl)
      (λ x y. nat_cmp (number x) (number y) ≡ Less) (counted number 0 xs counts)
      (λ x y _ less _. rw (first x, first y, value_cmp-Int (pos (number x)) (pos (number y)), int_below (number x) (number y) less) refl)
      held a
      ∙ (ap (map (λ x. shows project [] (row x))) (filter_all xs) ∙ map_each (λ x. shows project [] (row x)) shown same xs)

pub orgs_listed : (db : Trees) (s : core.State) (rows : List Row) → IsSound s → Means db s → IsAnswer (ordered_by (by_column 0 ∷ []) (one_table org_tree [] (col 1 0 ∷ col 1 2 ∷ []))) db [] rows → rows ≡ map org_shown s.directory.orgs
orgs_listed db s rows sound means = numbered_listed db org_tree org_row org_shown org_number (col 1 0 ∷ col 1 2 ∷ []) (λ o. refl) (λ o. refl) s.directory.orgs rows sound.directory.orgs.numbered.0 (held_of s org_place _ refl means)

pub accounts_listed : (db : Trees) (s : core.State) (rows : List Row) → IsSound s → Means db s → IsAnswer (ordered_by (by_column 0 ∷ []) (one_table person_tree [] (col 1 0 ∷ col 1 2 ∷ col 1 3 ∷ col 1 4 ∷ col 1 6 ∷ col 1 7 ∷ col 1 5 ∷ []))) db [] rows → rows ≡ map account_shown s.directory.accounts
accounts_listed db s rows sound means =
    numbered_listed db person_tree account_row account_shown account_number (col 1 0 ∷ col 1 2 ∷ col 1 3 ∷ col 1 4 ∷ col 1 6 ∷ col 1 7 ∷ col 1 5 ∷ []) (λ a. refl) (λ a. refl) s.directory.accounts rows sound.directory.accounts.numbered.0 (held_of s person_place _ refl means)

pub communities_listed : (db : Trees) (s : core.State) (rows : List Row) → IsSound s → Means db s → IsAnswer (ordered_by (by_column 0 ∷ []) (one_table community_tree [] (col 1 0 ∷ col 1 2 ∷ []))) db [] rows → rows ≡ map community_shown s.directory.communities
communities_listed db s rows sound means =
    numbered_listed db community_tree community_row community_shown community_number (col 1 0 ∷ col 1 2 ∷ []) (λ c. refl) (λ c. refl) s.directory.communities rows sound.directory.communities.numbered.0 (held_of s community_place _ refl means)

pub groups_listed : (db : Trees) (s : core.State) (rows : List Row) → IsSound s → Means db s → IsAnswer (ordered_by (by_column 0 ∷ []) (one_table grp_tree [] (col 1 0 ∷ col 1 2 ∷ col 1 3 ∷ col 1 4 ∷ col 1 5 ∷ []))) db [] rows → rows ≡ map group_shown s.directory.groups
groups_listed db s rows sound means =
    numbered_listed db grp_tree group_row group_shown group_number (col 1 0 ∷ col 1 2 ∷ col 1 3 ∷ col 1 4 ∷ col 1 5 ∷ []) (λ g. refl) (λ g. refl) s.directory.groups rows sound.directory.groups.numbered.0 (held_of s grp_place _ refl means)

pub namings_listed : (db : Trees) (s : core.State) (rows : List Row) → IsSound s → Means db s → IsAnswer (ordered_by (by_column 0 ∷ []) (one_table incident_tree [] (col 1 0 ∷ col 1 2 ∷ col 1 3 ∷ col 1 4 ∷ col 1 5 ∷ []))) db [] rows → rows ≡ map naming_shown (namings s)
namings_listed db s rows sound means a =
    numbered_listed db incident_tree named_row (λ (i : Incident). naming_shown i.naming) incident_number (col 1 0 ∷ col 1 2 ∷ col 1 3 ∷ col 1 4 ∷ col 1 5 ∷ []) (λ i. refl) (λ i. refl) s.incidents rows sound.incidents.numbered.0 (held_of s incident_place _ refl means) a
    ∙ map-map-back s.incidents
  where
    map-map-back : (is : List Incident) → map (λ (i : Incident). naming_shown i.naming) is ≡ map naming_shown (map (λ (i : Incident). i.naming) is)
    map-map-back [] = refl
    map-map-back (i ∷ is) = ap (λ l. naming_shown i.naming ∷ l) (map-map-back is)

-- ---- rows without a number

-- all elements of a set whose rowids mean nothing, by an order of its own
rows_listed : {X : Type 0} (db : Trees) (tree : ℕ) (row : X → Row) (order columns : List ℕ) (R : X → X → Type 0) (xs : List X)
    (rows : List Row) → ((x : X) → map (column (row x)) columns ≡ row x) → IsAscending R xs
    → ((x y : X) → R x y → output_cmp (ordered_by (in_order order) (one_table tree [] (columns_after columns)))
    (outs order columns (row x)) (outs order columns (row y)) ≡ Less)
    → IsHeld db (holding_without_rowids tree (map row xs))
    → IsAnswer (ordered_by (in_order order) (one_table tree [] (columns_after columns))) db [] rows → rows ≡ map row xs
rows_listed db tree row order columns R xs rows same up below held a =
    listed_past db tree row xs (λ x. true) [] order columns [] (λ r. true) rows (λ r. refl) (λ x. refl) R up
    (λ x y _ less _. below x y less) held a
    ∙ (ap (map (λ x. map (column (row x)) columns)) (filter_all xs) ∙ map_each (λ x. map (column (row x)) columns) row same xs)

pub all_gates_listed : (db : Trees) (s : core.State) (rows : List Row) → IsSound s → Means db s
    → IsAnswer (ordered_by (in_order (0 ∷ 1 ∷ [])) (one_table gate_tree [] (columns_after (0 ∷ 1 ∷ 2 ∷ 3 ∷ [])))) db [] rows
    → rows ≡ map gate_row s.gates
all_gates_listed db s rows sound means =
    rows_listed db gate_tree gate_row (0 ∷ 1 ∷ []) (0 ∷ 1 ∷ 2 ∷ 3 ∷ []) (λ a b. gate_cmp a b ≡ Less) s.gates rows (λ g. refl)
    (rising _ s.gates sound.gates.rising)
    (λ a b less. rw (value_cmp-Int (pos a.incident) (pos b.incident), value_cmp-Text (pointer_text a.gate.path) (pointer_text b.gate.path), int_as_nat a.incident b.incident)
    (last_two (nat_cmp a.incident b.incident) (slice_cmp nat_cmp (pointer_text a.gate.path) (pointer_text b.gate.path)) less))
    (held_of s gate_place _ refl means)

pub all_recipients_listed : (db : Trees) (s : core.State) (rows : List Row) → IsSound s → Means db s
    → IsAnswer (ordered_by (in_order (0 ∷ 1 ∷ 2 ∷ [])) (one_table recipient_tree [] (columns_after (0 ∷ 1 ∷ 2 ∷ [])))) db [] rows
    → rows ≡ map recipient_row s.recipients
all_recipients_listed db s rows sound means =
    rows_listed db recipient_tree recipient_row (0 ∷ 1 ∷ 2 ∷ []) (0 ∷ 1 ∷ 2 ∷ []) (λ a b. recipient_cmp a b ≡ Less) s.recipients rows (λ r. refl)
    (rising _ s.recipients sound.recipients.rising)
    (λ a b less. rw (value_cmp-Int (pos a.incident) (pos b.incident), value_cmp-Int (pos (target_key a.target).0) (pos (target_key b.target).0), value_cmp-Int (pos (target_key a.target).1) (pos (target_key b.target).1), int_as_nat a.incident b.incident, int_as_nat (target_key a.target).0 (target_key b.target).0, int_as_nat (target_key a.target).1 (target_key b.target).1)
    (last_three (nat_cmp a.incident b.incident) (nat_cmp (target_key a.target).0 (target_key b.target).0) (nat_cmp (target_key a.target).1 (target_key b.target).1) less))
    (held_of s recipient_place _ refl means)

last_four : (o p q r : Ordering) → ordering_then (ordering_then o p) (ordering_then q r) ≡ Less → ordering_then o (ordering_then p (ordering_then q (ordering_then r Equal))) ≡ Less
last_four Less p q r h = refl
last_four Greater p q r h = absurd cc
last_four Equal p q r h = last_three p q r h

pub all_permissions_listed : (db : Trees) (s : core.State) (rows : List Row) → IsSound s → Means db s
    → IsAnswer (ordered_by (in_order (0 ∷ 1 ∷ 2 ∷ 3 ∷ [])) (one_table permission_tree [] (columns_after (0 ∷ 1 ∷ 2 ∷ 3 ∷ 4 ∷ [])))) db [] rows
    → rows ≡ map permission_row s.permissions
all_permissions_listed db s rows sound means =
    rows_listed db permission_tree permission_row (0 ∷ 1 ∷ 2 ∷ 3 ∷ []) (0 ∷ 1 ∷ 2 ∷ 3 ∷ 4 ∷ []) (λ a b. permission_cmp a b ≡ Less) s.permissions rows (λ x. refl)
    (rising _ s.permissions sound.permissions.rising)
    (λ a b less. rw (value_cmp-Int (pos a.incident) (pos b.incident), value_cmp-Text (pointer_text a.permission.path) (pointer_text b.permission.path), value_cmp-Int (pos (grantee_key a.permission.grantee).0) (pos (grantee_key b.permission.grantee).0), value_cmp-Int (pos (grantee_key a.permission.grantee).1) (pos (grantee_key b.permission.grantee).1), int_as_nat a.incident b.incident, int_as_nat (grantee_key a.permission.grantee).0 (grantee_key b.permission.grantee).0, int_as_nat (grantee_key a.permission.grantee).1 (grantee_key b.permission.grantee).1)
    (last_four (nat_cmp a.incident b.incident) (slice_cmp nat_cmp (pointer_text a.permission.path) (pointer_text b.permission.path)) (nat_cmp (grantee_key a.permission.grantee).0 (grantee_key b.permission.grantee).0) (nat_cmp (grantee_key a.permission.grantee).1 (grantee_key b.permission.grantee).1) less))
    (held_of s permission_place _ refl means)
