-- What CREATE and DROP make of a list of parts.
use Rattle.std.{proofs.{Common.{◌≡◌, List, [], ◌∷◌, ◌++◌, map, sym, subst, ◌∙◌}, lemmas.List.Sorted.IsPermutation-refl}, specs.List.AllByRecursion}
use Rattle.{std.specs.List.Sorted.IsPermutation, sqlite_trees.specs.{Tree.Trees, View.IsShaped, declared.store.Shape.TheVariants.Table as table_shape}}
use Rattle.{sqlite_schema.specs.declared.schema.Table.Table, sqlite_catalog.specs.Change.{created, next_tree, without_table, KeepsRows}}
use Rattle.{sqlite.specs.Effect.Database, hub_store.{proofs.Versions.{Creates.Made, Drops.Dropped}, specs.{Holdings.{Holding, IsHeld}, Parts.{Part, held}}}}
use Rattle.hub_store.specs.Parts.{schema_of, HoldsParts}

abbrev pub AreHeld : Trees → List Part → Type 0
AreHeld db ps = AllByRecursion (IsHeld db) (map held ps)

-- a table with the same rows holds the same
pub same_rows : (h : Holding) (old new : Trees) → new h.tree ≡ old h.tree → IsHeld old h → IsHeld new h
same_rows h old new same is = record {
  shaped = subst (IsShaped table_shape) (sym same) is.shaped;
  same = subst (λ rows. IsPermutation h.rows (map h.seen rows)) (sym same) is.same;
}

no_rows : (h : Holding) (db : Trees) → h.rows ≡ [] → db h.tree ≡ [] → IsHeld db h
no_rows h db none empty = record {
  shaped = subst (IsShaped table_shape) (sym empty) (tt, tt);
  same = subst (λ rows. IsPermutation h.rows (map h.seen rows)) (sym empty) (subst (λ rows. IsPermutation rows []) (sym none) (IsPermutation-refl []));
}

all_stay : (ps : List Part) (old new : Trees) → KeepsRows (map (λ (p : Part). p.table) ps) old new → AreHeld old ps → AreHeld new ps
all_stay [] old new keeps are = tt
all_stay (p ∷ ps) old new keeps are = (same_rows (held p) old new keeps.0 are.0, all_stay ps old new keeps.1 are.1)

without_one : (qs : List Part) (p : Part) (rs : List Part) (db : Trees) → AreHeld db (qs ++ p ∷ rs) → AreHeld db (qs ++ rs)
without_one [] p rs db are = are.1
without_one (q ∷ qs) p rs db are = (are.0, without_one qs p rs db are.1)

and_one : (ps : List Part) (p : Part) (db : Trees) → AreHeld db ps → IsHeld db (held p) → AreHeld db (ps ++ p ∷ [])
and_one [] p db are one = (one, tt)
and_one (q ∷ ps) p db are one = (are.0, and_one ps p db are.1 one)

-- DROP of one part. For parts that are written out, `refl` proves the premise.
pub drops : (qs : List Part) (p : Part) (rs : List Part) (old new : Database) → without_table (schema_of (qs ++ p ∷ rs)) p.table.tree ≡ schema_of (qs ++ rs)
    → Dropped (schema_of (qs ++ p ∷ rs)) p.table.tree old new → HoldsParts (qs ++ p ∷ rs) old → HoldsParts (qs ++ rs) new
drops qs p rs old new left d has = record {
  known = d.schema_is ∙ left;
  whole = d.whole;
  means = all_stay (qs ++ rs) old.trees new.trees (subst (λ s. KeepsRows s.tables old.trees new.trees) left d.others) (without_one qs p rs old.trees has.means);
}

-- CREATE of one part, which has no rows yet
pub adds : (ps : List Part) (p : Part) (table : Table) (old new : Database) → created (schema_of ps) table ≡ schema_of (ps ++ p ∷ []) → next_tree (schema_of ps) ≡ p.table.tree → p.rows ≡ []
    → Made (schema_of ps) table old new → HoldsParts ps old → HoldsParts (ps ++ p ∷ []) new
adds ps p table old new more tree none m has = record {
  known = m.schema_is ∙ more;
  whole = m.whole;
  means = and_one ps p new.trees (all_stay ps old.trees new.trees m.others has.means) (no_rows (held p) new.trees none (subst (λ t. new.trees t ≡ []) tree m.empty));
}
