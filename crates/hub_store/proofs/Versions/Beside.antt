-- The tables beside one that is written: what is asked of them holds as before, whatever they are.
use Rattle.std.proofs.Common.{◌≡◌, ◌+◌, ℕ, List, [], ◌∷◌, ◌++◌, map, flat_map, length, Option, Bool, true, false, cond, not, ◌&&◌, ◌||◌, ◌==◌, eqb-true, refl}
use Rattle.std.{proofs.{Common.{ap, ◌∙◌, arith}, lemmas.Bool.{and_parts, and_from}}, specs.List.{AllByRecursion, list_all, filter_map}}
use Rattle.{sqlite_value.specs.Order.Row, sqlite_trees.specs.Tree.{Trees, with_tree}, sqlite_schema.specs.Rules.{Keeps, passes, guards, clashes, has_parent}}
use Rattle.sqlite_schema.specs.{Rules.{is_among, is_key_if_to}, declared.schema.{Among.Among, Constraint.TheVariants.Unique, Index.Index, Keys.Keys}}
use Rattle.{sqlite_schema.specs.declared.schema.{Reference.Reference, Schema.Schema, Table.Table}, sqlite_rules.specs.Action.{Work, works, work_for}}
use Rattle.{sqlite_catalog.specs.Change.automatics, hub_store.specs.Parts.{Part, indexes_of, are_beside}}

abbrev pub Unreferred : List Table → Type 0
Unreferred ts = AllByRecursion (λ (t : Table). t.references ≡ []) ts

pub each_row : (Q : Row → Type 0) → ((r : Row) → Q r) → (rows : List Row) → AllByRecursion Q rows
each_row Q each [] = tt
each_row Q each (r ∷ rows) = (each r, each_row Q each rows)

-- tables without a reference refer to nothing missing
pub none_refer : (among : Among) (all ts : List Table) (db : Trees) → Unreferred ts
    → AllByRecursion (λ (t : Table). AllByRecursion (λ row. list_all (λ ref. not (is_among among ref) || has_parent all db row ref) t.references ≡ true) (db t.tree)) ts
none_refer among all [] db none = tt
none_refer among all (t ∷ ts) db none =
    (each_row _ (λ r. ap (list_all (λ ref. not (is_among among ref) || has_parent all db r ref)) none.0) (db t.tree), none_refer among all ts db none.1)

-- and none is referred to
pub none_referred : (schema : Schema) (table : Table) (ts : List Table) → Unreferred ts → list_all (λ (t : Table). list_all (is_key_if_to schema table) t.references) ts ≡ true
none_referred schema table [] none = refl
none_referred schema table (t ∷ ts) none = and_from _ _ (ap (list_all (is_key_if_to schema table)) none.0) (none_referred schema table ts none.1)

no_work : (f : Table → Reference → Option Work) (ts : List Table) → Unreferred ts → flat_map (λ (child : Table). filter_map (f child) child.references) ts ≡ []
no_work f [] none = refl
no_work f (t ∷ ts) none = ap (λ refs. filter_map (f t) refs ++ flat_map (λ (child : Table). filter_map (f child) child.references) ts) none.0 ∙ no_work f ts none.1

-- and a step triggers nothing
pub no_works : (schema : Schema) (keys : Keys) → Unreferred schema.tables → (tree : ℕ) (olds news : List Row) → works schema keys 0 tree olds news ≡ []
no_works schema keys none tree olds news = no_work (work_for schema keys 0 tree olds news) schema.tables none

-- ---- parts beside a tree

no_length : {X : Type 0} (xs : List X) → (length xs == 0) ≡ true → xs ≡ []
no_length [] is = refl
no_length (x ∷ xs) is = absurd (omega (arith, eqb-true (length (x ∷ xs)) 0 is))

-- the test that no table refers to another
abbrev pub are_unreferred : List Table → Bool
are_unreferred ts = list_all (λ (t : Table). length t.references == 0) ts

pub unreferred_by : (ts : List Table) → are_unreferred ts ≡ true → Unreferred ts
unreferred_by [] none = tt
unreferred_by (t ∷ ts) none = let both = and_parts _ _ none in (no_length t.references both.0, unreferred_by ts both.1)

pub unreferred : (tree : ℕ) (ps : List Part) → are_beside tree ps ≡ true → are_unreferred (map (λ (p : Part). p.table) ps) ≡ true
unreferred tree [] beside = refl
unreferred tree (p ∷ ps) beside =
    let both = and_parts _ _ beside in
    and_from _ _ (and_parts _ _ both.0).1 (unreferred tree ps both.1)

pub apart : (tree : ℕ) (ps : List Part) → are_beside tree ps ≡ true → list_all (λ (q : Part). not (q.table.tree == tree)) ps ≡ true
apart tree [] beside = refl
apart tree (p ∷ ps) beside =
    let both = and_parts _ _ beside in
    and_from _ _ (and_parts _ _ both.0).0 (apart tree ps both.1)

all_append : {X : Type 0} (test : X → Bool) (xs ys : List X) → list_all test xs ≡ true → list_all test ys ≡ true → list_all test (xs ++ ys) ≡ true
all_append test [] ys first second = second
all_append test (x ∷ xs) ys first second =
    let both = and_parts _ _ first in
    and_from _ _ both.0 (all_append test xs ys both.1 second)

own_indexes : (table : Table) (tree at next : ℕ) (keys : List (List ℕ)) → not (table.tree == tree) ≡ true → list_all (λ (i : Index). not (i.table == tree)) (automatics table at next keys) ≡ true
own_indexes table tree at next [] is = refl
own_indexes table tree at next (key ∷ keys) is = and_from _ _ is (own_indexes table tree (at + 1) (next + 1) keys is)

-- their indexes are those of other tables
pub other_indexes : (tree : ℕ) (ps : List Part) → are_beside tree ps ≡ true → list_all (λ (i : Index). not (i.table == tree)) (flat_map (λ (p : Part). indexes_of p.table) ps) ≡ true
other_indexes tree [] beside = refl
other_indexes tree (p ∷ ps) beside =
    let both = and_parts _ _ beside in
    all_append (λ (i : Index). not (i.table == tree)) (indexes_of p.table) (flat_map (λ (p : Part). indexes_of p.table) ps) (own_indexes p.table tree 0 (p.table.tree + 1) p.table.uniques (and_parts _ _ both.0).0) (other_indexes tree ps both.1)

-- ---- rows that are unique

-- a row conflicts in no index with these rows of its table
abbrev pub is_unique_in : Schema → Table → List Row → Row → Bool
is_unique_in schema t rows row = list_all (λ (i : Index). not (guards i t && clashes i.order i.columns rows row)) schema.indexes

-- the rows of one tree are exchanged and are unique; all others stay
pub still_unique : (schema : Schema) (db : Trees) (tree : ℕ) (rows : List Row) → ((t : Table) → t.tree ≡ tree → AllByRecursion (λ row. is_unique_in schema t rows row ≡ true) rows) → Keeps Unique schema db → Keeps Unique schema (with_tree db tree rows)
still_unique schema db tree rows own kept = all schema.tables kept
  where
    all : (ts : List Table) → AllByRecursion (λ (t : Table). AllByRecursion (λ row. passes Unique schema db t row ≡ true) (db t.tree)) ts → AllByRecursion (λ (t : Table). AllByRecursion (λ row. passes Unique schema (with_tree db tree rows) t row ≡ true) (with_tree db tree rows t.tree)) ts
    all [] kept = tt
    all (t ∷ ts) kept = (go (t.tree == tree) refl, all ts kept.1)
      where
        go : (b : Bool) → (t.tree == tree) ≡ b → AllByRecursion (λ row. is_unique_in schema t (cond b rows (db t.tree)) row ≡ true) (cond b rows (db t.tree))
        go true is = own t (eqb-true t.tree tree is)
        go false is = kept.0
