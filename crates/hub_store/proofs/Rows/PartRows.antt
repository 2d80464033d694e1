-- What a statement on the rows of one table makes of a list of parts.
use Rattle.std.proofs.Common.{◌≡◌, ◌≢◌, ℕ, List, [], ◌∷◌, ◌++◌, map, filter, Bool, true, false, not, ◌==◌, if◌then◌else◌, sym, ap, subst, subst₂, ◌∙◌, arith}
use Rattle.std.{proofs.{Common.{◌/◌, length, slice_get, Some, Ok, refl}, lemmas.Bool.{and_parts, Decides.nat_tests}}, specs.List.{AllByRecursion, list_all}}
use Rattle.{std.specs.List.Sorted.IsPermutation, sqlite_value.specs.Order.Row, sqlite_trees.specs.Tree.Trees}
use Rattle.sqlite_schema.specs.declared.{command.{Command.TheVariants.{Insert, Delete, Update}, Source.TheVariants.Values}, schema.Keys.TheVariants.Enforced}
use Rattle.{sqlite_schema.specs.declared.schema.Table.Table, sqlite_sql.specs.Term.{Term, col}, sqlite_rules.specs.{Action.works, Cast.cast_row, Edit.Edit}}
use Rattle.{sqlite_rules.specs.{Edit.{Applies, with_rowid, numbered}, declared.error.Rowids.TheVariants.Chosen}, sqlite.proofs.Callers.{IsPlain, command_of}}
use Rattle.sqlite.specs.{Effect.{Database, IsDatabase, value_rows}, Listing.understood, Rows.stamped, State.{State, Executes}}
use Rattle.hub_store.proofs.Rows.{Forms.{one_table, program}, Held.{permuted, comes_in, goes_out}, Parts.{AreHeld, same_rows}, Statements.{keeps, shows}}
use Rattle.hub_store.{proofs.Rows.Statements.{inserted, deleted, updated}, specs.{Holdings.{Holding, IsHeld}, Parts.{Part, held, schema_of, HoldsParts}}}
use Rattle.hub_store.proofs.Rows.Exchanged as exchanged

-- ---- the other parts stay

abbrev pub with_rows : List Row → Part → Part
with_rows rows p = record p { rows = rows }

abbrev pub are_apart : ℕ → List Part → Bool
are_apart n ps = list_all (λ (q : Part). not (q.table.tree == n)) ps

abbrev IsKept : ℕ → Trees → Trees → List Part → Type 0
IsKept n old new ps = AllByRecursion (λ (t : Table). t.tree ≢ n → new t.tree ≡ old t.tree) (map (λ (p : Part). p.table) ps)

differ : (m n : ℕ) → not (m == n) ≡ true → m ≡ n → ⊥
differ m n e k = grind (arith, nat_tests)

all_kept : (n : ℕ) (ps : List Part) (old new : Trees) → are_apart n ps ≡ true → IsKept n old new ps → AreHeld old ps → AreHeld new ps
all_kept n [] old new apart kept are = tt
all_kept n (p ∷ ps) old new apart kept are =
    let both = and_parts _ _ apart in
    (same_rows (held p) old new (kept.0 (differ p.table.tree n both.0)) are.0, all_kept n ps old new both.1 kept.1 are.1)

one_of : (n : ℕ) (qs : List Part) (p p' : Part) (rs : List Part) (old new : Trees) → are_apart n (qs ++ rs) ≡ true → IsKept n old new (qs ++ p ∷ rs) → (IsHeld old (held p) → IsHeld new (held p')) → AreHeld old (qs ++ p ∷ rs) → AreHeld new (qs ++ p' ∷ rs)
one_of n [] p p' rs old new apart kept change are = (change are.0, all_kept n rs old new apart kept.1 are.1)
one_of n (q ∷ qs) p p' rs old new apart kept change are =
    let both = and_parts _ _ apart in
    (same_rows (held q) old new (kept.0 (differ q.table.tree n both.0)) are.0, one_of n qs p p' rs old new both.1 kept.1 change are.1)

-- The rows of one part change. For parts that are written out, `refl` proves the two premises.
pub changes : (qs : List Part) (p : Part) (rs : List Part) (rows : List Row) (old new : Database) (edit : Edit) → edit.table.tree ≡ p.table.tree → are_apart p.table.tree (qs ++ rs) ≡ true → schema_of (qs ++ p ∷ rs) ≡ schema_of (qs ++ with_rows rows p ∷ rs)
    → new.schema ≡ schema_of (qs ++ p ∷ rs) → IsDatabase new → Applies (schema_of (qs ++ p ∷ rs)) Enforced old.trees edit new.trees → (IsHeld old.trees (held p) → IsHeld new.trees (held (with_rows rows p))) → HoldsParts (qs ++ p ∷ rs) old → HoldsParts (qs ++ with_rows rows p ∷ rs) new
changes qs p rs rows old new edit is apart same schema sound a change has = record {
  known = schema ∙ same;
  whole = sound;
  means = one_of p.table.tree qs p (with_rows rows p) rs old.trees new.trees apart (subst (λ n. IsKept n old.trees new.trees (qs ++ p ∷ rs)) is a.tables) change has.means;
}

-- the rows of one part are in another order
pub exchanged_rows : (db : Trees) (qs : List Part) (p : Part) (rs : List Part) (more : List Row) → IsPermutation p.rows more → AreHeld db (qs ++ p ∷ rs) → AreHeld db (qs ++ with_rows more p ∷ rs)
exchanged_rows db [] p rs more same are = (permuted db p.table.tree p.seen p.rows more same are.0, are.1)
exchanged_rows db (q ∷ qs) p rs more same are = (are.0, exchanged_rows db qs p rs more same are.1)

-- A part at its place among the others. For parts that are written out, each field is `refl`.
pub record Stands (qs : List Part) (p : Part) (rs : List Part) (at : ℕ) : Type 0 where
  pub listed : slice_get (schema_of (qs ++ p ∷ rs)).tables at ≡ Some p.table
  pub uncounted : p.table.is_counted ≡ false
  pub timeless : p.table.stamps.terms ≡ []
  pub alone : (tree : ℕ) (olds news : List Row) → works (schema_of (qs ++ p ∷ rs)) Enforced 0 tree olds news ≡ []
  pub apart : are_apart p.table.tree (qs ++ rs) ≡ true
  pub same : (rows : List Row) → schema_of (qs ++ p ∷ rs) ≡ schema_of (qs ++ with_rows rows p ∷ rs)

module _ (qs : List Part) (p : Part) (rs : List Part) (at : ℕ) (stands : Stands qs p rs at) (sql : List ℕ) (params : Row) (old new : State) (plain : IsPlain (understood (schema_of (qs ++ p ∷ rs)) sql)) (count : ℕ) (h : Executes sql params old new (Ok count))
    (has : HoldsParts (qs ++ p ∷ rs) old.now) where
  -- one row is put, which the columns accept as it is
  pub puts : (terms : List Term) (width : ℕ) → command_of (understood (schema_of (qs ++ p ∷ rs)) sql) ≡ Insert at (Values terms width) → (row : Row) → value_rows (stamped p.table params) width (length terms / width) terms ≡ row ∷ [] → cast_row p.table row ≡ row
      → (shown : Row) → ((rows : List Row) → p.seen (with_rowid Chosen rows row) ≡ shown) → (more : List Row) → IsPermutation (shown ∷ p.rows) more → HoldsParts (qs ++ with_rows more p ∷ rs) new.now
  puts terms width is row rows cast shown shows more same =
      let s = schema_of (qs ++ p ∷ rs) in
      let c = inserted s p.table at stands.listed stands.uncounted stands.timeless stands.alone sql params old new has.known plain count h terms width is in
      let before = old.now.trees p.table.tree in
      let news = ap (λ all. numbered Chosen before (map (cast_row p.table) all)) rows ∙ ap (λ r. with_rowid Chosen before r ∷ []) cast in
      let a = subst (λ n. Applies s Enforced old.now.trees (record { table = p.table; gone = []; news = n }) new.now.trees) news c.applies in
      changes qs p rs more old.now new.now _ refl stands.apart (stands.same more) c.schema_is c.whole a
      (λ one. permuted new.now.trees p.table.tree p.seen (shown ∷ p.rows) more same (subst (λ r. IsHeld new.now.trees (held (with_rows (r ∷ p.rows) p))) (shows before) (comes_in old.now.trees new.now.trees p.table p.seen p.rows _ a one))) has

  -- the rows that pass the tests are removed
  pub takes : (terms : List Term) → command_of (understood (schema_of (qs ++ p ∷ rs)) sql) ≡ Delete at (program (one_table p.table.tree terms (col 1 0 ∷ []))) → (k : Row → Bool) → ((r : Row) → keeps terms params r ≡ k (p.seen r))
      → (left : List Row) → filter (λ r. not (k r)) p.rows ≡ left → HoldsParts (qs ++ with_rows left p ∷ rs) new.now
  takes terms is k same left gone =
      let s = schema_of (qs ++ p ∷ rs) in
      let c = deleted s p.table at stands.listed stands.uncounted stands.timeless stands.alone sql params old new has.known plain count h _ is in
      changes qs p rs left old.now new.now _ refl stands.apart (stands.same left) c.2.schema_is c.2.whole c.2.applies
      (λ one. subst (λ l. IsHeld new.now.trees (held (with_rows l p))) gone (goes_out old.now.trees new.now.trees p.table p.seen p.rows terms params c.0 k c.1 c.2.applies same one)) has

  -- the rows that pass the tests are exchanged, if they are those of elements and are seen as they are
  pub exchanges : (terms project : List Term)
      → command_of (understood (schema_of (qs ++ p ∷ rs)) sql) ≡ Update at (program (one_table p.table.tree terms (col 1 0 ∷ project)))
      → {X : Type 0} (row : X → Row) (k : X → Bool) (f : X → X) (xs : List X) → p.seen ≡ (λ r. r) → p.rows ≡ map row xs
      → ((x : X) → keeps terms params (row x) ≡ k x) → ((x : X) → cast_row p.table (shows project params (row x)) ≡ row (f x))
      → HoldsParts (qs ++ with_rows (map row (map (λ x. if k x then f x else x) xs)) p ∷ rs) new.now
  exchanges terms project is row k f xs seen rows same made =
      let s = schema_of (qs ++ p ∷ rs) in
      let c = updated s p.table at stands.listed stands.uncounted stands.timeless stands.alone sql params old new has.known plain count h _ is in
      let more = map row (map (λ x. if k x then f x else x) xs) in
      let as_seen : (Row → Row) → List Row → Holding = λ f all. record { tree = p.table.tree; seen = f; rows = all } in
      changes qs p rs more old.now new.now _ refl stands.apart (stands.same more) c.2.schema_is c.2.whole c.2.applies
      (λ one. subst (λ f. IsHeld new.now.trees (as_seen f more)) (sym seen)
      (exchanged.exchanges row k f xs old.now.trees new.now.trees p.table terms project params c.0 c.1 c.2.applies same made
      (subst₂ (λ f all. IsHeld old.now.trees (as_seen f all)) seen rows one))) has
