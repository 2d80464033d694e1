-- What rows that are put and rows that are taken make of what a table holds.
use Rattle.std.proofs.{Common.{◌≡◌, ℕ, List, [], ◌∷◌, ◌++◌, map, filter, drop, Bool, true, false, not, refl, sym, ap, subst, ◌∙◌}, lemmas.Bool.and_parts}
use Rattle.std.proofs.lemmas.{Bool.not-true, List.{map-append, Sorted.{IsPermutation-map, IsPermutation-cons, IsPermutation-trans, IsPermutation-sym}}}
use Rattle.std.{proofs.lemmas.List.Sorted.{IsPermutation-refl, IsPermutation-middle, IsPermutation-append_right}, specs.List.Sorted.IsPermutation}
use Rattle.{sqlite_value.specs.{Order.Row, declared.value.Value.TheVariants.Null}, sqlite_trees.proofs.ListLemmas.{map-map, filter-map, filter_same}}
use Rattle.sqlite_trees.{proofs.{ListLemmas.IsPermutation-filter, TreeLemmas.{IsShaped-put_row, IsShaped-filter}}, specs.{Tree.{Trees, put_row}, View.IsShaped}}
use Rattle.{sqlite_schema.specs.declared.schema.{Keys.TheVariants.Enforced, Schema.Schema, Table.Table}, sqlite_sql.specs.{Query.IsAnswer, Term.{Term, col}}}
use Rattle.sqlite_rules.specs.{Calls.ids_of, Edit.{is_taken, without_all, Applies, put_all, have_rowids, are_fresh, with_rowid, numbered}}
use Rattle.{sqlite_rules.specs.declared.error.Rowids.TheVariants.Chosen, hub_store.proofs.Rows.{Forms.one_table, Found.always, Lists.{came_in, id_of}}}
use Rattle.hub_store.{proofs.Rows.{Lists.went_out, Statements.{keeps, shows, selected}}, specs.Holdings.IsHeld}
use Rattle.sqlite_trees.specs.declared.store.Shape.TheVariants as shape

pub permuted : (db : Trees) (tree : ℕ) (seen : Row → Row) (all more : List Row) → IsPermutation all more → IsHeld db (record { tree = tree; seen = seen; rows = all }) → IsHeld db (record { tree = tree; seen = seen; rows = more })
permuted db tree seen all more same held = record { shaped = held.shaped; same = IsPermutation-trans _ _ _ (IsPermutation-sym _ _ same) held.same }

pub comes_in : {schema : Schema} (db next : Trees) (table : Table) (seen : Row → Row) (all : List Row) (new : Row) → Applies schema Enforced db (record { table = table; gone = []; news = new ∷ [] }) next →
    IsHeld db (record { tree = table.tree; seen = seen; rows = all }) → IsHeld next (record { tree = table.tree; seen = seen; rows = seen new ∷ all })
comes_in db next table seen all new a held =
    let fresh : is_taken (db table.tree) new ≡ false = not-true _ (and_parts _ _ a.fresh).0 in
    record {
      shaped = subst (IsShaped shape.Table) (sym a.rows) (IsShaped-put_row new (db table.tree) (and_parts _ _ a.keyed).0 held.shaped);
      same = subst (λ rows. IsPermutation (seen new ∷ all) (map seen rows)) (sym a.rows) (IsPermutation-trans _ _ _ (IsPermutation-cons (seen new) _ _ held.same) (IsPermutation-map seen _ _ (came_in new (db table.tree) fresh)));
    }

pub all_put : (news rows : List Row) → have_rowids news ≡ true → are_fresh rows news ≡ true → IsShaped shape.Table rows → IsShaped shape.Table (put_all rows news) × IsPermutation (news ++ rows) (put_all rows news)
all_put [] rows keyed fresh shaped = (shaped, IsPermutation-refl rows)
all_put (r ∷ news) rows keyed fresh shaped =
    let ids = and_parts _ _ keyed in
    let new = and_parts _ _ fresh in
    let more = all_put news (put_row r rows) ids.1 new.1 (IsShaped-put_row r rows ids.0 shaped) in
    let one = IsPermutation-append_right news (r ∷ rows) (put_row r rows) (came_in r rows (not-true _ new.0)) in
    (more.0, IsPermutation-trans _ _ _ (IsPermutation-sym _ _ (IsPermutation-middle news r rows)) (IsPermutation-trans _ _ _ one more.1))

-- several at once
pub come_in : {schema : Schema} (db next : Trees) (table : Table) (seen : Row → Row) (all news : List Row) → Applies schema Enforced db (record { table = table; gone = []; news = news }) next →
    IsHeld db (record { tree = table.tree; seen = seen; rows = all }) → IsHeld next (record { tree = table.tree; seen = seen; rows = map seen news ++ all })
come_in db next table seen all news a held =
    let put = all_put news (db table.tree) a.keyed a.fresh held.shaped in
    let seen_all = subst (λ l. IsPermutation l (map seen (put_all (db table.tree) news))) (map-append seen news (db table.tree)) (IsPermutation-map seen _ _ put.1) in
    record {
      shaped = subst (IsShaped shape.Table) (sym a.rows) put.0;
      same = subst (λ rows. IsPermutation (map seen news ++ all) (map seen rows)) (sym a.rows) (IsPermutation-trans _ _ _ (IsPermutation-append_right (map seen news) _ _ held.same) seen_all);
    }

-- a row with a rowid that the table chooses
abbrev pub bare : Row → Row
bare r = Null ∷ r

-- without their chosen rowids the rows are those that were put
pub past_rowids : (rows all : List Row) → map (drop 1) (numbered Chosen rows (map bare all)) ≡ all
past_rowids rows [] = refl
past_rowids rows (r ∷ all) = ap (λ l. r ∷ l) (past_rowids (put_row (with_rowid Chosen rows (bare r)) rows) all)

-- the rows that remain after those that a query of one table found are removed
pub gone_by : (db : Trees) (tree : ℕ) (terms more : List Term) (params : Row) (rows : List Row) → IsShaped shape.Table (db tree) → IsAnswer (one_table tree terms (col 1 0 ∷ more)) db params rows →
    without_all (db tree) (ids_of rows) ≡ filter (λ r. not (keeps terms params r)) (db tree)
gone_by db tree terms more params rows shaped a =
    let found = selected db tree terms (col 1 0 ∷ more) params rows a in
    let ids : IsPermutation (map id_of (filter (keeps terms params) (db tree))) (ids_of rows) = subst (λ l. IsPermutation l (ids_of rows)) (map-map id_of (shows (col 1 0 ∷ more) params) _) (IsPermutation-map id_of _ _ found) in
    went_out (keeps terms params) (db tree) (ids_of rows) shaped ids

pub goes_out : {schema : Schema} (db next : Trees) (table : Table) (seen : Row → Row) (all : List Row) (terms : List Term) (params : Row) (rows : List Row) (p : Row → Bool) → IsAnswer (one_table table.tree terms (col 1 0 ∷ [])) db params rows →
    Applies schema Enforced db (record { table = table; gone = ids_of rows; news = [] }) next → ((r : Row) → keeps terms params r ≡ p (seen r)) →
    IsHeld db (record { tree = table.tree; seen = seen; rows = all }) → IsHeld next (record { tree = table.tree; seen = seen; rows = filter (λ r. not (p r)) all })
goes_out db next table seen all terms params rows p answer a same held =
    let left : next table.tree ≡ filter (λ r. not (p (seen r))) (db table.tree) =
    a.rows ∙ gone_by db table.tree terms [] params rows held.shaped answer ∙ filter_same (λ r. not (keeps terms params r)) (λ r. not (p (seen r))) (db table.tree) (always (λ r. ap not (same r)) (db table.tree)) in
    record {
      shaped = subst (IsShaped shape.Table) (sym left) (IsShaped-filter shape.Table (λ r. not (p (seen r))) (db table.tree) held.shaped);
      same = subst (λ rows. IsPermutation (filter (λ r. not (p r)) all) (map seen rows)) (sym left)
          (subst (IsPermutation (filter (λ r. not (p r)) all)) (filter-map (λ r. not (p r)) seen (db table.tree)) (IsPermutation-filter (λ r. not (p r)) _ _ held.same));
    }
