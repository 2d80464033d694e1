-- The incident that a query finds by its source and ident.
use Rattle.std.proofs.Common.{◌≡◌, ◌≢◌, ℕ, pos, List, [], ◌∷◌, map, Bool, true, false, ◌==◌, ◌&&◌, Option, Some, None, option_map, Result, Ok, Err, IfOk, refl}
use Rattle.std.{proofs.{Common.{ap, subst}, lemmas.Bool.false_from_ne_true}, specs.{List.Sorted.IsPermutation, Option.option_to_list, Str.bytes_eq}}
use Rattle.{sqlite_value.specs.{Order.{Row, column}, declared.value.Value.TheVariants.{Int, Text}}, sqlite_trees.proofs.ListLemmas.all_weaker}
use Rattle.{sqlite_trees.specs.Tree.Trees, sqlite_sql.specs.{Query.IsAnswer, Term.col}, sqlite.specs.declared.error.Error.Error, circle.specs.Sound.Differ}
use Rattle.hub_state.{proofs.Found.one_name, specs.{Sound.IsSound, State.{incident_named, incident_number}, declared.state.Incident.Incident}}
use Rattle.hub_store.proofs.{LookUps.{ByNumber.found_once, Finding.{Once, as_viewed, reads_first}}, Rows.Compare.{equal_numbers, equal_texts, and-true}}
use Rattle.hub_store.{proofs.Rows.{Forms.{one_table, is_param}, Places.{incident_place, incident_tree, held_of}, Statements.shows}, specs.Means.Means}
use Rattle.hub_store.specs.{Rows.named_row, inner.{FirstShown.number_shown, Shown.{IsShownBy, ShowsFirst}, ShownPairs.ShowsNumber}}
use Rattle.hub_state.specs.State as core

abbrev is_named : ℕ → List ℕ → Incident → Bool
is_named source ident i = i.naming.source == source && bytes_eq i.naming.ident ident

abbrev name_of : Incident → ℕ × List ℕ
name_of i = (i.naming.source, i.naming.ident)

-- a source posts an ident once
once_named : (source : ℕ) (ident : List ℕ) (xs : List Incident) → Differ name_of xs → Once (is_named source ident) xs
once_named source ident [] apart = tt
once_named source ident (x ∷ xs) apart = (
  all_weaker (λ y. name_of x ≢ name_of y) (λ y. is_named source ident x ≡ true → is_named source ident y ≡ false) (λ y other is. false_from_ne_true (is_named source ident y) (λ also. other (one_name source ident x y is also))) xs apart.0,
  once_named source ident xs apart.1,
)

pub number_found : (db : Trees) (s : core.State) (source : ℕ) (ident : List ℕ) (rows : List Row) → IsSound s → Means db s → IsAnswer (one_table incident_tree (is_param 2 0 ∷ is_param 3 1 ∷ []) (col 1 0 ∷ [])) db (Int (pos source) ∷ Text ident ∷ []) rows
    → IsPermutation (map number_shown (option_to_list (option_map incident_number (incident_named source ident s)))) rows
number_found db s source ident rows sound means a =
    let project = col 1 0 ∷ [] in
    let params = Int (pos source) ∷ Text ident ∷ [] in
    let is_it = is_named source ident in
    subst (λ l. IsPermutation l rows) (as_viewed (λ (i : Incident). shows project params (named_row i)) incident_number number_shown (λ i. refl) (incident_named source ident s))
    (found_once db incident_tree named_row s.incidents (is_param 2 0 ∷ is_param 3 1 ∷ []) project params is_it rows (λ i. rw (equal_numbers i.naming.source source, equal_texts i.naming.ident ident) (ap (λ b. i.naming.source == source && b) (and-true (bytes_eq i.naming.ident ident)))) (once_named source ident s.incidents sound.incidents.idents) (held_of s incident_place _ refl means) a)

-- ---- what the rows are read as

first_number : (rows : List Row) (found : Option ℕ) → ShowsFirst ShowsNumber rows found → ShowsFirst (IsShownBy number_shown) rows found
first_number [] None h = h
first_number [] (Some n) h = h
first_number (row ∷ rows) None h = h
first_number (row ∷ rows) (Some n) h = λ m is. h m (ap (λ r. column r 0) is)

pub reads_number : (o : Option ℕ) (rows : List Row) (r : Result (Option ℕ) Error) → IsPermutation (map number_shown (option_to_list o)) rows → IfOk r (λ found. ShowsFirst ShowsNumber rows found) → IfOk r (λ found. found ≡ o)
reads_number o rows (Ok found) same h = reads_first number_shown o rows (Ok found) same (first_number rows found h)
reads_number o rows (Err e) same h = tt
