-- What a query of one table lists in the order of a key.
use Rattle.std.proofs.Common.{◌≡◌, ℕ, suc, pos, negsuc, List, [], ◌∷◌, Vec, map, filter, drop, Bool, true, false, cond, ◌==◌, Result, Ok, Err, IfOk, nat_cmp}
use Rattle.std.{proofs.{Common.{refl, ap, ap₂, subst, ◌∙◌, arith}, lemmas.Bool.{eqb-true, Decides.nat_tests}}, specs.List.AllByRecursion}
use Rattle.std.specs.{List.Sorted.IsPermutation, Ordering.{int_cmp, ordering_then}, declared.{alloc.Global.Global, cmp.Ordering.{Ordering, TheVariants.Less}}}
use Rattle.{std.specs.declared.cmp.Ordering.TheVariants.{Equal, Greater}, sqlite_value.specs.{Order.{Row, column}, declared.keys.Key.Key}}
use Rattle.{sqlite_value.specs.declared.value.Value.TheVariants.Int, sqlite_trees.proofs.ListLemmas.{map-map, all_weaker, ascending-map, ascending_weaker}}
use Rattle.{sqlite_trees.specs.Tree.{Trees, IsAscending}, sqlite_sql.{proofs.QueryLemmas.output_cmp_total, specs.Query.{Query, IsAnswer, Output, output_cmp}}}
use Rattle.{sqlite_sql.specs.{Query.{limited, as_count}, Term.{Term, lit, col, eval, eval_all}}, sqlite.specs.declared.error.Error.Error}
use Rattle.hub_store.proofs.{LookUps.Finding.{seen_through, of_elements, all_are}, Rows.{Compare.column_past, Forms.{one_table, by_column, ordered_by}}}
use Rattle.hub_store.{proofs.Rows.{Lists.Rises, Orders.sorted_as, Statements.{keeps, shows, ordered_rows}}, specs.{Holdings.IsHeld, inner.Shown.IsShownBy}}
use Rattle.hub_store.specs.inner.Shown.{ShowsAll}

-- ---- lists that rise, and what passes of them

all_passing : {X : Type 0} (P : X → Type 0) (q : X → Bool) (xs : List X) → AllByRecursion P xs → AllByRecursion (λ x. P x × (q x ≡ true)) (filter q xs)
all_passing P q [] all = tt
all_passing P q (x ∷ xs) all = go (q x) refl (all_passing P q xs all.1)
  where
    go : (b : Bool) → q x ≡ b → AllByRecursion (λ y. P y × (q y ≡ true)) (filter q xs) → AllByRecursion (λ y. P y × (q y ≡ true)) (cond b (x ∷ filter q xs) (filter q xs))
    go true is more = ((all.0, is), more)
    go false is more = more

-- each two that pass are in the relation, and pass
pub rising_passing : {X : Type 0} (R : X → X → Type 0) (q : X → Bool) (xs : List X) → IsAscending R xs → IsAscending (λ a b. (q a ≡ true) × (R a b × (q b ≡ true))) (filter q xs)
rising_passing R q [] up = tt
rising_passing R q (x ∷ xs) up = go (q x) refl (rising_passing R q xs up.1)
  where
    go : (b : Bool) → q x ≡ b → IsAscending (λ a b. (q a ≡ true) × (R a b × (q b ≡ true))) (filter q xs) → IsAscending (λ a b. (q a ≡ true) × (R a b × (q b ≡ true))) (cond b (x ∷ filter q xs) (filter q xs))
    go true is more = (all_weaker (λ y. R x y × (q y ≡ true)) (λ y. (q x ≡ true) × (R x y × (q y ≡ true))) (λ y h. (is, h)) (filter q xs) (all_passing (R x) q xs up.0), more)
    go false is more = more

-- ---- queries

-- the rows that a query lists, if it shows elements that are in its order
pub in_its_order : {X : Type 0} (db : Trees) (tree : ℕ) (xs : List X) (q : X → Bool) (terms project : List Term) (order : List (Term × Key)) (limit : Term) (params : Row) (out : X → Output) (rows : List Row)
    → (R : X → X → Type 0) → IsAscending R xs → ((a b : X) → q a ≡ true → R a b → q b ≡ true → output_cmp (record (one_table tree terms project) { order = order; limit = limit }) (out a) (out b) ≡ Less)
    → ((all : List Output) → IsPermutation (map (λ r. (eval_all (map (λ (k : Term × Key). k.0) order) (params ∷ r ∷ []), shows project params r)) (filter (keeps terms params) (db tree))) all → IsPermutation (map out (filter q xs)) all)
    → IsAnswer (record (one_table tree terms project) { order = order; limit = limit }) db params rows
    → rows ≡ limited (as_count (eval limit (params ∷ []))) (map (λ x. (out x).1) (filter q xs))
in_its_order db tree xs q terms project order limit params out rows R up below of_rows a =
    let Q : Query = record (one_table tree terms project) { order = order; limit = limit } in
    let got = ordered_rows db tree terms project order limit params rows a in
    let rises : Rises (output_cmp Q) (λ o. o) (map out (filter q xs)) =
    ascending-map _ out (filter q xs) (ascending_weaker (λ a b. (q a ≡ true) × (R a b × (q b ≡ true))) _ (λ a b h. below a b h.0 h.1.0 h.1.1) (filter q xs) (rising_passing R q xs up)) in
    let all = sorted_as (output_cmp_total Q) (λ o. o) (map out (filter q xs)) got.0 rises (of_rows got.0 got.1) got.2 in
    got.3 ∙ ap (λ l. limited (as_count (eval limit (params ∷ []))) (map (λ (o : Output). o.1) l)) all ∙ ap (limited (as_count (eval limit (params ∷ [])))) (map-map (λ (o : Output). o.1) out (filter q xs))

-- the same of a table whose rows are those of the elements
pub listed : {X : Type 0} (db : Trees) (tree : ℕ) (seen : Row → Row) (row : X → Row) (xs : List X) (q : X → Bool) (terms project : List Term) (order : List (Term × Key)) (limit : Term) (params : Row) (p : Row → Bool) (out : Row → Output) (rows : List Row)
    → ((r : Row) → keeps terms params r ≡ p (seen r)) → ((r : Row) → (eval_all (map (λ (k : Term × Key). k.0) order) (params ∷ r ∷ []), shows project params r) ≡ out (seen r)) → ((x : X) → p (row x) ≡ q x)
    → (R : X → X → Type 0) → IsAscending R xs → ((a b : X) → q a ≡ true → R a b → q b ≡ true → output_cmp (record (one_table tree terms project) { order = order; limit = limit }) (out (row a)) (out (row b)) ≡ Less)
    → IsHeld db (record { tree = tree; seen = seen; rows = map row xs }) → IsAnswer (record (one_table tree terms project) { order = order; limit = limit }) db params rows
    → rows ≡ limited (as_count (eval limit (params ∷ []))) (map (λ x. (out (row x)).1) (filter q xs))
listed db tree seen row xs q terms project order limit params p out rows keep show same R up below held a =
    in_its_order db tree xs q terms project order limit params (λ x. out (row x)) rows R up below
    (λ all found. of_elements row p out q xs all same (seen_through db (record { tree = tree; seen = seen; rows = map row xs }) (keeps terms params) (λ r. (eval_all (map (λ (k : Term × Key). k.0) order) (params ∷ r ∷ []), shows project params r)) p out all keep show held found))
    a

-- ---- tables whose rowids mean nothing: columns by their places in a row without its rowid

abbrev pub columns_after : List ℕ → List Term
columns_after = map (λ n. col 1 (suc n))

abbrev pub in_order : List ℕ → List (Term × Key)
in_order = map (λ n. by_column (suc n))

-- the keys of a row, and the columns that a query shows of it
abbrev pub outs : List ℕ → List ℕ → Row → Output
outs order columns r = (map (column r) order, map (column r) columns)

past_columns : (places : List ℕ) (params r : Row) → eval_all (columns_after places) (params ∷ r ∷ []) ≡ map (column (drop 1 r)) places
past_columns [] params r = refl
past_columns (n ∷ ns) params r = ap₂ (λ v l. v ∷ l) (column_past r n) (past_columns ns params r)

past_keys : (places : List ℕ) (params r : Row)
    → eval_all (map (λ (k : Term × Key). k.0) (in_order places)) (params ∷ r ∷ []) ≡ map (column (drop 1 r)) places
past_keys [] params r = refl
past_keys (n ∷ ns) params r = ap₂ (λ v l. v ∷ l) (column_past r n) (past_keys ns params r)

pub past_outs : (order columns : List ℕ) (params r : Row)
    → (eval_all (map (λ (k : Term × Key). k.0) (in_order order)) (params ∷ r ∷ []), shows (columns_after columns) params r)
    ≡ outs order columns (drop 1 r)
past_outs order columns params r = λ i. (past_keys order params r i, past_columns columns params r i)

-- what such a query lists of the elements that pass
pub listed_past : {X : Type 0} (db : Trees) (tree : ℕ) (row : X → Row) (xs : List X) (q : X → Bool) (terms : List Term)
    (order columns : List ℕ) (params : Row) (p : Row → Bool) (rows : List Row)
    → ((r : Row) → keeps terms params r ≡ p (drop 1 r)) → ((x : X) → p (row x) ≡ q x)
    → (R : X → X → Type 0) → IsAscending R xs
    → ((a b : X) → q a ≡ true → R a b → q b ≡ true →
    output_cmp (ordered_by (in_order order) (one_table tree terms (columns_after columns))) (outs order columns (row a))
    (outs order columns (row b)) ≡ Less)
    → IsHeld db (record { tree = tree; seen = drop 1; rows = map row xs })
    → IsAnswer (ordered_by (in_order order) (one_table tree terms (columns_after columns))) db params rows
    → rows ≡ map (λ x. map (column (row x)) columns) (filter q xs)
listed_past db tree row xs q terms order columns params p rows keep same R up below held a =
    listed db tree (drop 1) row xs q terms (columns_after columns) (in_order order) (lit (Int (negsuc 0))) params p
    (outs order columns) rows keep (past_outs order columns params) same R up below held a

-- ---- keys that decide

pub not_less : (m n k : ℕ) → m ≡ k → n ≡ k → nat_cmp m n ≡ Less → ⊥
not_less m n k e f h = grind (arith, nat_tests)

-- if both have the same second number, the first decides
pub first_decides : (m n i j k : ℕ) → (i == k) ≡ true → (j == k) ≡ true → ordering_then (nat_cmp m n) (nat_cmp i j) ≡ Less → nat_cmp m n ≡ Less
first_decides m n i j k e f h = go (nat_cmp m n) h
  where
    go : (c : Ordering) → ordering_then c (nat_cmp i j) ≡ Less → c ≡ Less
    go Less more = refl
    go Equal more = absurd (not_less i j k (eqb-true i k e) (eqb-true j k f) more)
    go Greater more = absurd cc

-- if both have the same number, the next key decides
pub next_decides : (m n k : ℕ) (o : Ordering) → (m == k) ≡ true → (n == k) ≡ true → ordering_then (nat_cmp m n) o ≡ Less → o ≡ Less
next_decides m n k o e f h = go (nat_cmp m n) refl h
  where
    go : (c : Ordering) → nat_cmp m n ≡ c → ordering_then c o ≡ Less → o ≡ Less
    go Less is more = absurd (not_less m n k (eqb-true m k e) (eqb-true n k f) is)
    go Equal is more = more
    go Greater is more = absurd cc

pub int_below : (a b : ℕ) → nat_cmp a b ≡ Less → int_cmp (pos a) (pos b) ≡ Less
int_below a b h = grind (arith, nat_tests)

-- ---- what the rows are read as

pub reads_all : {X : Type 0} (shown : X → Row) (xs : List X) (rows : List Row) (r : Result (Vec X Global) Error) → rows ≡ map shown xs → IfOk r (λ found. ShowsAll (IsShownBy shown) rows found.items) → IfOk r (λ found. found.items ≡ xs)
reads_all shown xs rows (Ok found) is h = all_are shown xs found.items (subst (λ l. ShowsAll (IsShownBy shown) l found.items) is h)
reads_all shown xs rows (Err e) is h = tt
