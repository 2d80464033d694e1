-- What an UPDATE by key makes of a table.
use Rattle.std.proofs.Common.{◌≡◌, List, [], ◌∷◌, ◌++◌, map, filter, drop, Bool, true, false, cond, not, if◌then◌else◌, refl, sym, ap, subst, ◌∙◌}
use Rattle.std.proofs.lemmas.List.{map-id, Sorted.{IsPermutation-map, IsPermutation-cons, IsPermutation-trans, IsPermutation-refl, IsPermutation-sym}}
use Rattle.{std.{proofs.lemmas.List.Sorted.{IsPermutation-middle, IsPermutation-append}, specs.List.Sorted.IsPermutation}, sqlite_value.specs.Order.Row}
use Rattle.sqlite_trees.{proofs.{ListLemmas.{map-map, IsPermutation-filter}, TreeLemmas.IsShaped-filter}, specs.Tree.{Trees, put_row}}
use Rattle.{sqlite_sql.specs.{Query.IsAnswer, Term.{Term, col}}, sqlite_schema.specs.declared.schema.{Keys.TheVariants.Enforced, Schema.Schema, Table.Table}}
use Rattle.sqlite_rules.specs.{Calls.ids_of, Cast.cast_row, Edit.{numbered, without_all, Applies}, declared.error.Rowids.TheVariants.Given}
use Rattle.hub_store.proofs.Rows.{Forms.one_table, Found.{filter_rows, map_each, shown_of}, Held.{gone_by, all_put}, Statements.{keeps, shows, selected}}
use Rattle.hub_store.specs.Holdings.{IsHeld, holding_by_number}
use Rattle.sqlite_trees.specs.declared.store.Shape.TheVariants as shape

-- the changed rows and the others make the changed list
mixed : {X Y : Type 0} (g : X → Y) (k : X → Bool) (f : X → X) (xs : List X) → IsPermutation (map g (map f (filter k xs)) ++ map g (filter (λ x. not (k x)) xs)) (map g (map (λ x. if k x then f x else x) xs))
mixed g k f [] = IsPermutation-refl []
mixed g k f (x ∷ xs) =
    elim (k x) as (λ b. IsPermutation (map g (map f (cond b (x ∷ filter k xs) (filter k xs))) ++ map g (cond (not b) (x ∷ filter (λ x. not (k x)) xs) (filter (λ x. not (k x)) xs))) (g (cond b (f x) x) ∷ map g (map (λ x. if k x then f x else x) xs))) [
      | true ↦ IsPermutation-cons (g (f x)) _ _ (mixed g k f xs)
      | false ↦ IsPermutation-trans _ _ _ (IsPermutation-middle (map g (map f (filter k xs))) (g x) (map g (filter (λ x. not (k x)) xs))) (IsPermutation-cons (g x) _ _ (mixed g k f xs))
    ]

numbered_given : (rows xs : List Row) → numbered Given rows xs ≡ xs
numbered_given rows [] = refl
numbered_given rows (x ∷ xs) = ap (λ l. x ∷ l) (numbered_given (put_row x rows) xs)

-- the rows that the query found are exchanged for what it shows of them
pub exchanges : {X : Type 0} {schema : Schema} (row : X → Row) (k : X → Bool) (f : X → X) (xs : List X) (db next : Trees) (table : Table) (terms project : List Term) (params : Row) (rows : List Row) →
    IsAnswer (one_table table.tree terms (col 1 0 ∷ project)) db params rows →
    Applies schema Enforced db (record { table = table; gone = ids_of rows; news = numbered Given (without_all (db table.tree) (ids_of rows)) (map (λ s. cast_row table (drop 1 s)) rows) }) next →
    ((x : X) → keeps terms params (row x) ≡ k x) → ((x : X) → cast_row table (shows project params (row x)) ≡ row (f x)) →
    IsHeld db (holding_by_number table.tree row xs) → IsHeld next (holding_by_number table.tree row (map (λ x. if k x then f x else x) xs))
exchanges {X} {schema} row k f xs db next table terms project params rows answer a same made held =
    let keep = keeps terms params in
    let cast_up : Row → Row = λ s. cast_row table (drop 1 s) in
    let all : IsPermutation (map row xs) (db table.tree) = subst (IsPermutation _) (map-id (db table.tree)) held.same in
    let left : without_all (db table.tree) (ids_of rows) ≡ filter (λ r. not (keep r)) (db table.tree) = gone_by db table.tree terms project params rows held.shaped answer in
    let in_place = numbered_given (without_all (db table.tree) (ids_of rows)) (map cast_up rows) in
    let in_all = all_put _ (without_all (db table.tree) (ids_of rows)) a.keyed a.fresh (rw left (IsShaped-filter shape.Table (λ r. not (keep r)) (db table.tree) held.shaped)) in
    let found = shown_of row keep (shows (col 1 0 ∷ project) params) k xs (db table.tree) rows same all (selected db table.tree terms (col 1 0 ∷ project) params rows answer) in
    let news : IsPermutation (map row (map f (filter k xs))) (map cast_up rows) =
    subst (λ l. IsPermutation l (map cast_up rows))
    (map-map cast_up (λ (x : X). shows (col 1 0 ∷ project) params (row x)) (filter k xs)
    ∙ map_each (λ (x : X). cast_up (shows (col 1 0 ∷ project) params (row x))) (λ (x : X). row (f x)) made (filter k xs)
    ∙ sym (map-map row f (filter k xs))) (IsPermutation-map cast_up _ _ found) in
    let rest : IsPermutation (map row (filter (λ x. not (k x)) xs)) (filter (λ r. not (keep r)) (db table.tree)) =
    subst (λ l. IsPermutation l (filter (λ r. not (keep r)) (db table.tree))) (filter_rows row (λ r. not (keep r)) (λ x. not (k x)) (λ x. ap not (same x)) xs) (IsPermutation-filter (λ r. not (keep r)) _ _ all) in
    let joined = IsPermutation-trans _ _ _ (IsPermutation-sym _ _ (mixed row k f xs)) (IsPermutation-append _ _ _ _ news rest) in
    record {
      shaped = rw a.rows in_all.0;
      same = subst (IsPermutation _) (sym (map-id (next table.tree) ∙ a.rows)) (IsPermutation-trans _ _ _ (rw (in_place, left) joined) in_all.1);
    }
