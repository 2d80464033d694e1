-- Whether a query of one table shows a row.
use Rattle.std.proofs.Common.{◌≡◌, ℕ, List, map, filter, find, length, Bool, true, false, not, ◌&&◌, ◌||◌, ◌==◌, Option, Some, None, option_map, refl, sym, ap}
use Rattle.std.{proofs.{Common.◌∙◌, lemmas.List.{length-map, Sorted.{length_permutation, list_any-IsPermutation}}}, specs.List.{list_any, Sorted.IsPermutation}}
use Rattle.{std.specs.Option.{option_map_or, option_to_list}, sqlite_value.specs.Order.Row, sqlite_trees.specs.Tree.Trees, sqlite_sql.specs.Query.IsAnswer}
use Rattle.{sqlite_sql.specs.Term.Term, circle.proofs.Lookup.{any_having, some_having}, hub_state.proofs.{Counted.any_same, Keeping.any_map}}
use Rattle.hub_store.{proofs.{LookUps.Finding.{Once, only_one}, Rows.{Forms.one_table, Statements.{keeps, shows, selected}}}, specs.Holdings.{Holding, IsHeld}}

-- there are rows exactly if an element passes
pub any_shown : {X : Type 0} (shown : X → Row) (q : X → Bool) (xs : List X) (rows : List Row) → IsPermutation (map shown (filter q xs)) rows → not (length rows == 0) ≡ list_any q xs
any_shown shown q xs rows same = ap (λ n. not (n == 0)) (length_permutation _ rows same ∙ length-map (filter q xs) shown) ∙ some_having q xs

-- a query of a table shows a row exactly if one passes, as it is seen
pub table_shows : (db : Trees) (h : Holding) (terms project : List Term) (params : Row) (p : Row → Bool) (rows : List Row) → ((r : Row) → keeps terms params r ≡ p (h.seen r)) → IsHeld db h → IsAnswer (one_table h.tree terms project) db params rows
    → not (length rows == 0) ≡ list_any p h.rows
table_shows db h terms project params p rows same held a =
    let stored = db h.tree in
    any_shown (shows project params) (keeps terms params) stored rows (selected db h.tree terms project params rows a)
    ∙ any_same (keeps terms params) (λ r. p (h.seen r)) stored same
    ∙ sym (any_map p h.seen stored)
    ∙ sym (list_any-IsPermutation p h.rows (map h.seen stored) held.same)

-- the same by the elements of the rows
pub set_shows : {X : Type 0} (db : Trees) (tree : ℕ) (seen : Row → Row) (row : X → Row) (xs : List X) (q : X → Bool) (terms project : List Term) (params : Row) (p : Row → Bool) (rows : List Row)
    → ((r : Row) → keeps terms params r ≡ p (seen r)) → ((x : X) → p (row x) ≡ q x) → IsHeld db (record { tree = tree; seen = seen; rows = map row xs }) → IsAnswer (one_table tree terms project) db params rows
    → not (length rows == 0) ≡ list_any q xs
set_shows db tree seen row xs q terms project params p rows keep same held a =
    table_shows db (record { tree = tree; seen = seen; rows = map row xs }) terms project params p rows keep held a ∙ any_map p row xs ∙ any_same (λ x. p (row x)) q xs same

-- ---- one element at most

of_option : {X : Type 0} (p : X → Bool) (o : Option X) → list_any p (option_to_list o) ≡ option_map_or p o false
of_option p None = refl
of_option p (Some x) = elim (p x) as (λ b. (b || false) ≡ b) [ true ↦ refl | false ↦ refl ]

viewed : {X Y : Type 0} (view : X → Y) (test : Y → Bool) (o : Option X) → option_map_or (λ x. test (view x)) o false ≡ option_map_or test (option_map view o) false
viewed view test None = refl
viewed view test (Some x) = refl

-- a test of the one that was found
pub one_passes : {X Y : Type 0} (view : X → Y) (q : X → Bool) (test : Y → Bool) (xs : List X) (found : Option Y) (b : Bool) → Once q xs → found ≡ option_map view (find q xs) → b ≡ option_map_or test found false → b ≡ list_any (λ x. q x && test (view x)) xs
one_passes view q test xs found b once is h =
    h ∙ ap (λ o. option_map_or test o false) is
    ∙ sym (sym (any_having q (λ x. test (view x)) xs) ∙ ap (list_any (λ x. test (view x))) (only_one q xs once) ∙ of_option (λ x. test (view x)) (find q xs) ∙ viewed view test (find q xs))
