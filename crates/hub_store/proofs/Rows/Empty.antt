-- The tables with the version and without any other row stand for the state without a row.
use Rattle.std.{proofs.{Common.{◌≡◌, List, [], ◌∷◌, map, drop, arith, refl, sym, subst}, lemmas.List.Sorted.IsPermutation-refl}, specs.List.AllByRecursion}
use Rattle.{std.specs.List.Sorted.IsPermutation, sqlite_trees.specs.{Tree.Trees, View.IsShaped, declared.store.Shape.TheVariants.Table as table_shape}}
use Rattle.{sqlite_schema.specs.declared.schema.Table.Table, sqlite.specs.{Effect.Database, State.State}, circle.proofs.Owners.empty_sound}
use Rattle.{hub_state.specs.{Sound.IsSound, State.empty}, hub_store.{proofs.Rows.Parts.AreHeld, specs.{Content.{Has, CommitsState}, Holdings.IsHeld}}}
use Rattle.hub_store.specs.{Layout.{newest, parts_by, bare_by, under}, Means.Holds, Parts.{Part, held, HoldsParts}, Tables.{no_schema, schema_by}}
use Rattle.hub_store.specs.inner.Makes.{HasEmpty}

-- if there is no table
pub no_tables : (db : Database) → db.schema ≡ no_schema → HasEmpty no_schema db
no_tables db blank = record { known = blank; whole = λ some. absurd (some refl); empty = tt }

bare : (db : Trees) (p : Part) → p.rows ≡ [] → db p.table.tree ≡ [] → IsHeld db (held p)
bare db p none empty = record {
  shaped = subst (IsShaped table_shape) (sym empty) (tt, tt);
  same = subst (λ rows. IsPermutation p.rows (map p.seen rows)) (sym empty) (subst (λ rows. IsPermutation rows []) (sym none) (IsPermutation-refl []));
}

all_bare : (db : Trees) (ps : List Part) → AllByRecursion (λ (p : Part). p.rows ≡ []) ps → AllByRecursion (λ (t : Table). db t.tree ≡ []) (map (λ (p : Part). p.table) ps) → AreHeld db ps
all_bare db [] none clear = tt
all_bare db (p ∷ ps) none clear = (bare db p none.0 clear.0, all_bare db ps none.1 clear.1)

-- the tables of version 2, made one after another, are its parts without a row
pub bare_2 : (db : Database) → HasEmpty (schema_by 2) db → HoldsParts (bare_by 2) db
bare_2 db has = record {
  known = has.known;
  whole = has.whole (λ none. absurd cc);
  means = all_bare db.trees (bare_by 2) (refl, (refl, (refl, (refl, (refl, (refl, (refl, (refl, (refl, (refl, (refl, tt))))))))))) has.empty;
}

-- those of the newest version, under that version, stand for the state without a row
pub newest_empty : (db : Database) → HoldsParts (under newest (drop 1 (parts_by newest empty))) db → Holds db empty
newest_empty db has = record { known = has.known; whole = has.whole; means = has.means; fit = record { orgs = tt; accounts = tt; communities = tt; groups = tt; gates = tt } }

pub sound_empty : IsSound empty
sound_empty = record {
  directory = empty_sound.0;
  incidents = record { numbered = (tt, omega arith); idents = tt; sources = tt; revisions = tt; communities = tt; documents = tt; follow = tt };
  gates = record { rising = tt; places = tt; ends = tt; roots = tt; limit = tt };
  recipients = record { rising = tt; ends = tt; targets = tt; limit = tt };
  permissions = record { rising = tt; places = tt; grantees = tt; limit = tt };
}

-- a store whose last commit is the empty state has it
pub has_empty : (c : State) → CommitsState c empty → Has c empty
has_empty c is = record { sound = sound_empty; holds = λ up. is.holds; settled = λ up. is.settled }
