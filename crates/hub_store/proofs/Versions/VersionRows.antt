-- What two rows of the version's query say of all rows.
use Rattle.std.proofs.Common.{◌≡◌, ℕ, pos, negsuc, List, [], ◌∷◌, map, filter, take, Bool, true, false, cond, ◌==◌, eqb-true, Option, Some, None, is_some}
use Rattle.std.proofs.{Common.{slice_get, option_and_then, inl, inr, Ok, codes, refl, sym, ap, subst, ◌∙◌, arith}, lemmas.List.Sorted.IsPermutation-map}
use Rattle.std.{proofs.lemmas.{List.Sorted.length_permutation, Option.{option_and_then_some, slice_get_cases}}, specs.List.position_from}
use Rattle.{std.specs.List.Sorted.IsPermutation, sqlite_value.specs.{Order.{Row, column}, declared.value.Value.{Value, TheVariants.{Null, Int, Real, Text}}}}
use Rattle.{sqlite_value.specs.declared.value.Value.TheVariants.Blob, sqlite_trees.{proofs.ListLemmas.map-map, specs.Tree.Trees}}
use Rattle.{sqlite_sql.specs.{Query.{IsAnswer, Output}, Term.{lit, col}}, sqlite_schema.specs.Names.{table_named, column_named, place_of}}
use Rattle.{sqlite_schema.specs.declared.schema.{Column.Column, Schema.Schema, Table.Table}, sqlite_rules.proofs.RowLemmas.position_within}
use Rattle.{sqlite_resolve.specs.{Compile.compiled, declared.compiled.Compiled.Compiled}, sqlite.{proofs.Callers.one_permutation, specs.Effect.Database}}
use Rattle.{sqlite.specs.Effect.Reads, hub_store.proofs.{LookUps.Finding.no_permutation, Rows.Statements.{keeps, ordered_rows, overlaid}}}
use Rattle.hub_store.{proofs.Versions.AnySchema.{column_query, asks}, specs.Versions.{tables_at, if_alone, hub_of, version_column, values_at, versions_by}}
use Rattle.hub_store.specs.Versions.{only_u32, version_of, version_text}

-- two values are no version
no_version : (x y : Value) (more : List Value) → only_u32 (x ∷ y ∷ more) ≡ None
no_version Null y more = refl
no_version (Int (pos n)) y more = refl
no_version (Int (negsuc n)) y more = refl
no_version (Real x) y more = refl
no_version (Text t) y more = refl
no_version (Blob b) y more = refl

-- without a test no row is dropped
all_kept : (rows : List Row) → filter (keeps [] []) rows ≡ rows
all_kept [] = refl
all_kept (r ∷ rows) = ap (λ l. r ∷ l) (all_kept rows)

-- two of the rows say as much as all, in any order
from_two : (place : ℕ) (rows all : List Row) → IsPermutation (map (λ r. column r place ∷ []) rows) all → only_u32 (map (λ r. column r 0) (take 2 all)) ≡ only_u32 (map (λ r. column r place) rows)
from_two place [] all same = ap (λ (l : List Row). only_u32 (map (λ r. column r 0) (take 2 l))) (no_permutation all same)
from_two place (r ∷ []) all same = ap (λ (l : List Row). only_u32 (map (λ r. column r 0) (take 2 l))) (one_permutation (column r place ∷ []) all same)
from_two place (r ∷ s ∷ rows) [] same = absurd (omega (arith, length_permutation _ [] same))
from_two place (r ∷ s ∷ rows) (a ∷ []) same = absurd (omega (arith, length_permutation _ (a ∷ []) same))
from_two place (r ∷ s ∷ rows) (a ∷ b ∷ all) same = no_version _ _ _ ∙ sym (no_version _ _ _)

-- so the version that is read is that of the rows of the tree
version_read : (db : Trees) (tree place : ℕ) (rows : List Row) → IsAnswer (column_query tree place) db [] rows → only_u32 (map (λ r. column r 0) rows) ≡ only_u32 (map (λ r. column r place) (db tree))
version_read db tree place rows a =
    let got = ordered_rows db tree [] (col 1 place ∷ []) [] (lit (Int (pos 2))) [] rows a in
    let moved = IsPermutation-map (λ (o : Output). o.1) _ _ got.1 in
    let shown = map-map (λ (o : Output). o.1) _ _ ∙ ap (map (λ (r : Row). column r place ∷ [])) (all_kept (db tree)) in
    ap (λ (l : List Row). only_u32 (map (λ r. column r 0) l)) got.3 ∙ from_two place (db tree) _ (subst (λ l. IsPermutation l (map (λ (o : Output). o.1) got.0)) shown moved)

-- what there is
some_there : {X : Type 0} (o : Option X) → is_some o ≡ true → (x : X) × (o ≡ Some x)
some_there (Some x) h = (x, refl)
some_there None h = absurd cc

-- that a table has its tree alone
alone_is : (schema : Schema) (found table : Table) → if_alone schema found ≡ Some table → (found ≡ table) × (tables_at schema table.tree ≡ 1)
alone_is schema found table e = go (tables_at schema found.tree == 1) refl e
  where
    go : (b : Bool) → (tables_at schema found.tree == 1) ≡ b → cond b (Some found) None ≡ Some table → (found ≡ table) × (tables_at schema table.tree ≡ 1)
    go true one e = let same : found ≡ table = cc in (same, subst (λ (t : Table). tables_at schema t.tree ≡ 1) same (eqb-true _ _ one))
    go false one e = absurd cc

-- what is found at a place is there
in_list : {X : Type 0} (p : X → Bool) (xs : List X) (k : ℕ) → position_from p 0 xs ≡ Some k → (x : X) × (slice_get xs k ≡ Some x)
in_list p xs k found = elim (slice_get_cases xs k).1 [ inl here ↦ (here.0, here.2) | inr past ↦ absurd (omega (arith, position_within p xs 0 k found, past.0)) ]

-- the table and the column are found, and no other table has the tree
pub with_place : {P : Type 0} (schema : Schema) → is_some (version_column schema) ≡ true
    → ((at place : ℕ) (table : Table) (column : Column) → hub_of schema ≡ Some table → tables_at schema table.tree ≡ 1 → table_named schema (codes "hub") ≡ Some at → slice_get schema.tables at ≡ Some table → column_named table (codes "version") ≡ Some place → slice_get table.columns place ≡ Some column → P)
    → P
with_place schema there k =
    let place = some_there (version_column schema) there in
    option_and_then_some _ (hub_of schema) place.0 place.1 (λ table hub called.
    option_and_then_some (if_alone schema) (option_and_then (slice_get schema.tables) (table_named schema (codes "hub"))) table hub (λ found named alone.
    let it = alone_is schema found table alone in
    option_and_then_some _ (table_named schema (codes "hub")) found named (λ at has listed.
    let column = in_list _ table.columns place.0 called in
    k at place.0 table column.0 hub it.1 has (subst (λ (t : Table). slice_get schema.tables at ≡ Some t) it.0 listed) called column.1)))

-- if there is the column, an answer to the text gives the version of the tables
pub version_told : (db : Database) (c : Compiled) (rows : List Row) → is_some (version_column db.schema) ≡ true → compiled db.schema version_text ≡ Ok c → Reads c.command db [] rows → only_u32 (map (λ r. column r 0) rows) ≡ version_of db
version_told db c rows there is read =
    with_place db.schema there (λ at place table title hub alone has listed called inside.
    let answer = subst (λ k. Reads k db [] rows) (asks db.schema at place table title has listed called inside c is) read in
    let plain = subst (λ t. IsAnswer (column_query table.tree (place_of table place)) t [] rows) (overlaid db.trees) (answer.answer Null) in
    version_read db.trees table.tree (place_of table place) rows plain ∙ sym (ap (λ o. only_u32 (versions_by db.trees o)) hub ∙ ap (λ o. only_u32 (values_at db.trees table o)) called))
