-- The person that a query finds.
use Rattle.std.{proofs.Common.{ℕ, List, [], ◌∷◌, map, refl, subst, ◌∙◌}, specs.{List.Sorted.IsPermutation, Option.option_to_list, Str.bytes_eq}}
use Rattle.{sqlite_value.specs.{Order.Row, declared.value.Value.TheVariants.Blob}, sqlite_trees.specs.Tree.Trees, sqlite_sql.specs.{Query.IsAnswer, Term.col}}
use Rattle.{circle.specs.{Reads.person_in, declared.directory.Account.Account}, hub_state.specs.{Reads.person_by_key, Sound.IsSound}}
use Rattle.hub_store.proofs.{LookUps.{ByNumber.found_once, Finding.{once_keyed, as_viewed}}, Rows.{Compare.{equal_blobs, and-true}, Forms.one_table}}
use Rattle.hub_store.{proofs.Rows.{Forms.is_param, Places.{person_place, person_tree, held_of}, Statements.shows}, specs.{Means.Means, Rows.account_row}}
use Rattle.hub_store.specs.inner.Shown.{person_shown}
use Rattle.hub_state.specs.State as core

pub person_found : (db : Trees) (s : core.State) (key : List ℕ) (rows : List Row) → IsSound s → Means db s → IsAnswer (one_table person_tree (is_param 5 0 ∷ []) (col 1 0 ∷ col 1 2 ∷ col 1 3 ∷ col 1 4 ∷ col 1 6 ∷ col 1 7 ∷ [])) db (Blob key ∷ []) rows
    → IsPermutation (map person_shown (option_to_list (person_by_key key s))) rows
person_found db s key rows sound means a =
    let project = col 1 0 ∷ col 1 2 ∷ col 1 3 ∷ col 1 4 ∷ col 1 6 ∷ col 1 7 ∷ [] in
    let params = Blob key ∷ [] in
    let accounts = s.directory.accounts in
    subst (λ l. IsPermutation l rows) (as_viewed (λ a. shows project params (account_row a)) person_in person_shown (λ a. refl) _)
    (found_once db person_tree account_row accounts (is_param 5 0 ∷ []) project params (λ (a : Account). bytes_eq a.key key) rows (λ a. and-true _ ∙ equal_blobs a.key key) (once_keyed (λ (a : Account). a.key) key accounts sound.directory.accounts.keys) (held_of s person_place _ refl means) a)
