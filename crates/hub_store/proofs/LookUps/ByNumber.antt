-- What a query of a table with numbers finds, also by a number.
use Rattle.std.proofs.Common.{◌≡◌, ℕ, pos, List, [], ◌∷◌, map, filter, find, length, Bool, true, false, cond, not, ◌||◌, ◌==◌, is_some, option_map, Some, refl}
use Rattle.{std.{proofs.Common.{ap, subst, ◌∙◌}, specs.{List.{list_any, Sorted.IsPermutation}, Option.option_to_list}}, sqlite_value.specs.Order.{Row, column}}
use Rattle.{sqlite_value.specs.declared.value.Value.TheVariants.Int, sqlite_trees.specs.Tree.Trees, sqlite_sql.specs.{Query.IsAnswer, Term.{Term, col}}}
use Rattle.circle.specs.{Directory.{has_org, has_community, org_number, community_number, account_number}, Reads.{person_in, person_of, community_of}}
use Rattle.{circle.specs.Sound.CountsFrom, hub_state.specs.Sound.IsSound, hub_store.proofs.LookUps.Finding.{Once, seen_through, of_elements, only_one}}
use Rattle.hub_store.proofs.{LookUps.{Finding.{once_numbered, as_viewed}, Whether.any_shown}, Rows.Compare.{is_same, equal_numbers, and-true}}
use Rattle.hub_store.proofs.Rows.{Forms.{one_table, is_param}, Places.{community_place, community_tree, org_place, org_tree, person_place, person_tree}}
use Rattle.hub_store.{proofs.Rows.{Places.held_of, Statements.{keeps, shows, selected}}, specs.{Holdings.{IsHeld, holding_by_number}, Means.Means}}
use Rattle.hub_store.specs.{Rows.{org_row, account_row, community_row}, inner.{Adds.community_shown, Shown.person_shown}}
use Rattle.hub_state.specs.State as core

module _ {X : Type 0} (db : Trees) (tree : ℕ) (row : X → Row) (xs : List X) (terms project : List Term) (params : Row) (q : X → Bool) (rows : List Row) (same : (x : X) → keeps terms params (row x) ≡ q x) where
  -- the rows show those that pass
  found_passing : IsHeld db (holding_by_number tree row xs) → IsAnswer (one_table tree terms project) db params rows → IsPermutation (map (λ x. shows project params (row x)) (filter q xs)) rows
  found_passing held a =
      of_elements row (keeps terms params) (shows project params) q xs rows same
      (seen_through db (holding_by_number tree row xs) (keeps terms params) (shows project params) (keeps terms params) (shows project params) rows (λ r. refl) (λ r. refl) held (selected db tree terms project params rows a))

  -- there is at most one
  pub found_once : Once q xs → IsHeld db (holding_by_number tree row xs) → IsAnswer (one_table tree terms project) db params rows → IsPermutation (map (λ x. shows project params (row x)) (option_to_list (find q xs))) rows
  found_once once held a = subst (λ l. IsPermutation l rows) (ap (map (λ x. shows project params (row x))) (only_one q xs once)) (found_passing held a)

-- ---- by a number

module _ {X : Type 0} (db : Trees) (tree : ℕ) (row : X → Row) (number : X → ℕ) (xs : List X) (first : (x : X) → column (row x) 0 ≡ Int (pos (number x))) (n : ℕ) (project : List Term) (rows : List Row) (held : IsHeld db (holding_by_number tree row xs)) (a : IsAnswer (one_table tree (is_param 0 0 ∷ []) project) db (Int (pos n) ∷ []) rows) where
  by_first : (x : X) → keeps (is_param 0 0 ∷ []) (Int (pos n) ∷ []) (row x) ≡ (number x == n)
  by_first x = and-true _ ∙ ap (λ v. is_same v (Int (pos n))) (first x) ∙ equal_numbers (number x) n

  pub with_number : IsPermutation (map (λ x. shows project (Int (pos n) ∷ []) (row x)) (filter (λ x. number x == n) xs)) rows
  with_number = found_passing db tree row xs (is_param 0 0 ∷ []) project (Int (pos n) ∷ []) (λ x. number x == n) rows by_first held a

  pub one_with_number : CountsFrom number 0 xs → IsPermutation (map (λ x. shows project (Int (pos n) ∷ []) (row x)) (option_to_list (find (λ x. number x == n) xs))) rows
  one_with_number counts = found_once db tree row xs (is_param 0 0 ∷ []) project (Int (pos n) ∷ []) (λ x. number x == n) rows by_first (once_numbered number n xs counts) held a

pub org_found : (db : Trees) (s : core.State) (n : ℕ) (rows : List Row) → Means db s → IsAnswer (one_table org_tree (is_param 0 0 ∷ []) (col 1 0 ∷ [])) db (Int (pos n) ∷ []) rows → not (length rows == 0) ≡ has_org n s.directory
org_found db s n rows means a = any_shown _ _ s.directory.orgs rows (with_number db org_tree org_row org_number s.directory.orgs (λ x. refl) n (col 1 0 ∷ []) rows (held_of s org_place _ refl means) a)

pub community_found : (db : Trees) (s : core.State) (n : ℕ) (rows : List Row) → Means db s → IsAnswer (one_table community_tree (is_param 0 0 ∷ []) (col 1 0 ∷ [])) db (Int (pos n) ∷ []) rows → not (length rows == 0) ≡ has_community n s.directory
community_found db s n rows means a = any_shown _ _ s.directory.communities rows (with_number db community_tree community_row community_number s.directory.communities (λ x. refl) n (col 1 0 ∷ []) rows (held_of s community_place _ refl means) a)

pub community_and_name_found : (db : Trees) (s : core.State) (n : ℕ) (rows : List Row) → IsSound s → Means db s
    → IsAnswer (one_table community_tree (is_param 0 0 ∷ []) (col 1 0 ∷ col 1 2 ∷ [])) db (Int (pos n) ∷ []) rows
    → IsPermutation (map community_shown (option_to_list (community_of n s.directory))) rows
community_and_name_found db s n rows sound means a =
    one_with_number db community_tree community_row community_number s.directory.communities (λ x. refl) n (col 1 0 ∷ col 1 2 ∷ []) rows
    (held_of s community_place _ refl means) a sound.directory.communities.numbered.0

pub person_numbered_found : (db : Trees) (s : core.State) (n : ℕ) (rows : List Row) → IsSound s → Means db s → IsAnswer (one_table person_tree (is_param 0 0 ∷ []) (col 1 0 ∷ col 1 2 ∷ col 1 3 ∷ col 1 4 ∷ col 1 6 ∷ col 1 7 ∷ [])) db (Int (pos n) ∷ []) rows
    → IsPermutation (map person_shown (option_to_list (person_of n s.directory))) rows
person_numbered_found db s n rows sound means a =
    let project = col 1 0 ∷ col 1 2 ∷ col 1 3 ∷ col 1 4 ∷ col 1 6 ∷ col 1 7 ∷ [] in
    subst (λ l. IsPermutation l rows) (as_viewed (λ a. shows project (Int (pos n) ∷ []) (account_row a)) person_in person_shown (λ a. refl) _)
    (one_with_number db person_tree account_row account_number s.directory.accounts (λ x. refl) n project rows (held_of s person_place _ refl means) a sound.directory.accounts.numbered.0)

-- an option with a value, and a list with such an element
pub some_passes : {X Y : Type 0} (view : X → Y) (q : X → Bool) (xs : List X) → is_some (option_map view (find q xs)) ≡ list_any q xs
some_passes view q [] = refl
some_passes view q (x ∷ xs) = go (q x) (some_passes view q xs)
  where
    go : (b : Bool) → is_some (option_map view (find q xs)) ≡ list_any q xs → is_some (option_map view (cond b (Some x) (find q xs))) ≡ (b || list_any q xs)
    go true more = refl
    go false more = more
