-- What queries find of incidents.
use Rattle.std.proofs.Common.{◌≡◌, ℕ, pos, List, [], ◌∷◌, map, filter, take, ◌==◌, nat_lt, Option, Some, None, option_map, Result, Ok, Err, IfOk, nat_cmp, refl}
use Rattle.std.{proofs.{Common.{sym, ap, subst, ◌∙◌}, lemmas.{Bool.eqb-true, List.take-map}}, specs.{List.Sorted.IsPermutation, Option.option_to_list}}
use Rattle.{std.specs.declared.cmp.Ordering.TheVariants.Less, sqlite_value.{proofs.OrderLemmas.value_cmp-Int, specs.{Order.Row, declared.keys.Key.Key}}}
use Rattle.{sqlite_value.specs.declared.value.Value.TheVariants.Int, sqlite_trees.{proofs.ListLemmas.map-map, specs.Tree.Trees}, sqlite_sql.specs.Query.Query}
use Rattle.{sqlite_sql.specs.{Query.{IsAnswer, Output}, Term.{Term, col, eval_all}}, sqlite.specs.declared.error.Error.Error, iodef_tree.specs.Json.incident_id}
use Rattle.hub_state.{proofs.Keeping.{found_is, found_each}, specs.{Documents.Lines, Reads.{naming_of, entry_of, entries_after, its_gates, its_permissions}}}
use Rattle.hub_state.specs.{Reads.{case_for, case_of}, Sound.IsSound, State.{incident_number, incident_of}, declared.state.{Incident.Incident, Naming.Naming}}
use Rattle.{policy.specs.declared.case.Case.Case, hub_store.proofs.LookUps.{AtPlaces.lines_are, ByNumber.one_with_number, Finding.as_viewed, Listed.listed}}
use Rattle.hub_store.proofs.{LookUps.Listed.int_below, Rows.{Compare.{more_than, and-true}, Forms.{one_table, is_param, is_above, by_column}}}
use Rattle.hub_store.proofs.Rows.{Items.{lines_query, its_lines, lines_listed}, Places.{incident_place, incident_tree, held_of}, Rising.counted}
use Rattle.hub_store.{proofs.Rows.Statements.{keeps, shows}, specs.{Items.{placed_shown, placed_from}, Means.Means, Rows.named_row, inner.Shown.ShowsLines}}
use Rattle.hub_store.specs.inner.Shown.{IsCase, entry_shown, naming_shown}
use Rattle.hub_state.specs.State as core

-- ---- by the number

pub incident_found : (db : Trees) (s : core.State) (n : ℕ) (project : List Term) (rows : List Row) → IsSound s → Means db s → IsAnswer (one_table incident_tree (is_param 0 0 ∷ []) project) db (Int (pos n) ∷ []) rows
    → IsPermutation (map (λ (i : Incident). shows project (Int (pos n) ∷ []) (named_row i)) (option_to_list (incident_of n s))) rows
incident_found db s n project rows sound means a = one_with_number db incident_tree named_row incident_number s.incidents (λ i. refl) n project rows (held_of s incident_place _ refl means) a sound.incidents.numbered.0

pub naming_found : (db : Trees) (s : core.State) (n : ℕ) (rows : List Row) → IsSound s → Means db s → IsAnswer (one_table incident_tree (is_param 0 0 ∷ []) (col 1 0 ∷ col 1 2 ∷ col 1 3 ∷ col 1 4 ∷ col 1 5 ∷ [])) db (Int (pos n) ∷ []) rows
    → IsPermutation (map naming_shown (option_to_list (naming_of n s))) rows
naming_found db s n rows sound means a =
    let project = col 1 0 ∷ col 1 2 ∷ col 1 3 ∷ col 1 4 ∷ col 1 5 ∷ [] in
    subst (λ l. IsPermutation l rows) (as_viewed (λ (i : Incident). shows project (Int (pos n) ∷ []) (named_row i)) (λ (i : Incident). i.naming) naming_shown (λ i. refl) (incident_of n s))
    (incident_found db s n project rows sound means a)

-- ---- documents

-- a document with an IncidentID has a line
filled : (i : Incident) → incident_id i.document ≡ Some i.naming.ident → i.document ≡ [] → ⊥
filled i is none = let missing = subst (λ d. incident_id d ≡ Some i.naming.ident) none is in absurd cc

first_lines : (o : Option Incident) (rows : List Row) (found : Option Lines) → ((i : Incident) → o ≡ Some i → i.document ≡ [] → ⊥) → rows ≡ map placed_shown (placed_from 1 (its_lines o)) → ShowsLines rows found → found ≡ option_map (λ (i : Incident). i.document) o
first_lines None rows found full is h = none found (subst (λ l. ShowsLines l found) is h)
  where
    none : (found : Option Lines) → ShowsLines [] found → found ≡ None
    none None h = refl
    none (Some x) h = absurd h
first_lines (Some i) rows found full is h = one i.document refl found (subst (λ l. ShowsLines l found) is h)
  where
    one : (lines : Lines) → i.document ≡ lines → (found : Option Lines) → ShowsLines (map placed_shown (placed_from 1 lines)) found → found ≡ Some i.document
    one [] empty found h = absurd (full i refl empty)
    one (l ∷ ls) same None h = absurd h
    one (l ∷ ls) same (Some x) h = ap Some (lines_are (l ∷ ls) x h ∙ sym same)

pub reads_document : (db : Trees) (s : core.State) (n : ℕ) (rows : List Row) (r : Result (Option Lines) Error) → IsSound s → Means db s → IsAnswer lines_query db (Int (pos n) ∷ []) rows
    → IfOk r (λ found. ShowsLines rows found) → IfOk r (λ found. found ≡ option_map (λ (i : Incident). i.document) (incident_of n s))
reads_document db s n rows (Ok found) sound means a h =
    first_lines (incident_of n s) rows found (λ i is. filled i (found_each (λ (i : Incident). incident_id i.document ≡ Some i.naming.ident) (λ (i : Incident). i.naming.number == n) s.incidents i is sound.incidents.follow)) (lines_listed db s n rows sound means a) h
reads_document db s n rows (Err e) sound means a h = tt

-- ---- the first above a number

abbrev above_query : Query
above_query = record (one_table incident_tree (is_above 0 0 ∷ []) (col 1 0 ∷ col 1 4 ∷ col 1 2 ∷ [])) { order = by_column 0 ∷ []; limit = col 0 1 }

pub entries_listed : (db : Trees) (s : core.State) (number most : ℕ) (rows : List Row) → IsSound s → Means db s → IsAnswer above_query db (Int (pos number) ∷ Int (pos most) ∷ []) rows → rows ≡ map entry_shown (entries_after number most s)
entries_listed db s number most rows sound means a =
    let terms = is_above 0 0 ∷ [] in
    let project = col 1 0 ∷ col 1 4 ∷ col 1 2 ∷ [] in
    let order = by_column 0 ∷ [] in
    let params = Int (pos number) ∷ Int (pos most) ∷ [] in
    let passes = λ (i : Incident). nat_lt number i.naming.number in
    let out : Row → Output = λ r. (eval_all (map (λ (k : Term × Key). k.0) order) (params ∷ r ∷ []), shows project params r) in
    listed db incident_tree (λ r. r) named_row s.incidents passes terms project order (col 0 1) params (keeps terms params) out rows (λ r. refl) (λ r. refl) (λ i. and-true _ ∙ more_than i.naming.number number)
    (λ (a b : Incident). nat_cmp a.naming.number b.naming.number ≡ Less) (counted incident_number 0 s.incidents sound.incidents.numbered.0)
    (λ a b _ less _. rw (value_cmp-Int (pos a.naming.number) (pos b.naming.number), int_below a.naming.number b.naming.number less) refl)
    (held_of s incident_place _ refl means) a
    ∙ (sym (ap (take most) (map-map entry_shown entry_of (filter passes s.incidents))) ∙ take-map entry_shown most (map entry_of (filter passes s.incidents)))

-- ---- cases

-- the case of an incident that is there, by what was read of it
pub case_is : (s : core.State) (n : ℕ) (k : Naming) (case : Case) → Some k ≡ naming_of n s → IsCase k n s case → Some case ≡ case_of n s
case_is s n k case is it = go (incident_of n s) refl is
  where
    go : (o : Option Incident) → incident_of n s ≡ o → Some k ≡ option_map (λ (i : Incident). i.naming) o → Some case ≡ option_map (case_for s) o
    go None e h = absurd cc
    go (Some i) e h =
        let number : i.naming.number ≡ n = eqb-true i.naming.number n (found_is (λ (i : Incident). i.naming.number == n) s.incidents i e) in
        let source : k.source ≡ i.naming.source = cc in
        let community : k.community ≡ i.naming.community = cc in
        let gates = it.2 ∙ sym (ap (λ m. its_gates m s.gates) number) in
        let permissions = it.3 ∙ sym (ap (λ m. its_permissions m s.permissions) number) in
        ap Some (λ j. record { source = (it.0 ∙ source) j; community = (it.1 ∙ community) j; gates = gates j; permissions = permissions j })
