-- How a migration gets from one version to the next, by what its calls make.
use Rattle.std.proofs.Common.{◌≡◌, ◌<◌, ◌≤◌, nat_lt, ℕ, List, [], ◌∷◌, ◌++◌, map, Some, None, Ok, IsTrue, sym, ap, subst, ◌∙◌, arith, refl}
use Rattle.{std.proofs.lemmas.Bool.{ltb-true, Decides.nat_tests}, sqlite_trees.proofs.ListLemmas.map-map, sqlite.specs.{Effect.Database, State.State}}
use Rattle.{sqlite.specs.State.HasCleanDisk, hub_state.{proofs.Keeping.{found_is, found_each}, specs.{Sound.IsSound, declared.TheConstants.INCIDENT_LIMIT}}}
use Rattle.{hub_state.specs.declared.state.{Incident.Incident, Naming.Naming}, hub_store.proofs.Versions.{Movable.all_low, Moved.{next_more, next_kept}}}
use Rattle.hub_store.{proofs.Versions.Moved.all_moved, specs.{Fit.FitAs, Items.{items_in, items_of, item_row}, Layout.{parts_1, parts_2}, Means.HoldsAs}}
use Rattle.hub_store.specs.{Opening.is_older, Parts.HoldsParts, Rows.{naming_row_2, named_row_2}, inner.{Beside.HoldsBeside, Moving.{HasTexts, HoldsMoved}}}
use Rattle.hub_store.specs.inner.{Moving.{HoldsNext, incident_above, naming_in}, PutsLines.PutsLines}
use Rattle.hub_state.specs.State as core

is_above : (s : core.State) (number : ℕ) (i : Incident) → incident_above number s ≡ Some i → number < i.naming.number
is_above s number i is = ltb-true number i.naming.number (found_is (λ (j : Incident). nat_lt number j.naming.number) s.incidents i is)

-- the lines of the next document are put, and the rest of its row is kept
pub one_moved : {T : Type 0} {x : T} (mid new : State) (number : ℕ) (kept : List Naming) (s : core.State) (i : Incident) → HasTexts s → Some i ≡ incident_above number s → HoldsMoved number kept mid.now s
    → PutsLines i.naming.number 1 i.document mid new (Ok x) → HasCleanDisk new → IsTrue mid.in_transaction → HoldsNext number (kept ++ i.naming ∷ []) (Some i.naming.number) new.now s
one_moved mid new number kept s i has is before puts clean inside = (
  record {
    moved = (puts.moved s _ _ (next_more s number i has.sound (sym is))).made clean inside before.moved;
    are_kept = ap (λ l. l ++ i.naming ∷ []) before.are_kept ∙ sym (next_kept s number i has.sound (sym is));
  },
  is_above s number i (sym is),
  found_each (λ (j : Incident). j.naming.number ≤ INCIDENT_LIMIT) (λ (j : Incident). nat_lt number j.naming.number) s.incidents i (sym is) (all_low s has.sound),
)

-- there is no next
pub none_left : (db : Database) (number : ℕ) (kept : List Naming) (s : core.State) → IsSound s → None ≡ incident_above number s → HoldsMoved number kept db s → HoldsNext number kept None db s
none_left db number kept s sound is before = (before, all_moved s number sound (sym is))

-- before the first
pub moved_none : (db : Database) (s : core.State) → HasTexts s → HoldsBeside [] s db → HoldsMoved 0 [] db s
moved_none db s has holds = record { moved = holds; are_kept = refl }

-- after the last
pub moved_all : (db : Database) (number : ℕ) (kept : List Naming) (s : core.State) → HoldsNext number kept None db s → HoldsBeside (map item_row (items_of s)) s db × (kept ≡ naming_in s.incidents)
moved_all db number kept s h =
    (subst (λ is. HoldsBeside (map item_row (items_in is)) s db) h.1 h.0.moved, h.0.are_kept ∙ ap naming_in h.1)

-- ---- version 1

pub tables_of_1 : (db : Database) (s : core.State) → HoldsAs 1 db s → HoldsParts (parts_1 s) db
tables_of_1 db s held = record { known = held.known; whole = held.whole; means = held.means }

pub texts_of_1 : (db : Database) (s : core.State) → IsSound s → HoldsAs 1 db s → HasTexts s
texts_of_1 db s sound held = record { sound = sound; texts = held.fit.1; unnamed = held.fit.0.0.1 }

-- ---- which version it is

pub only_1 : (v : ℕ) → 0 < v → v < 2 → v ≡ 1
only_1 v some low = grind (arith, nat_tests)

pub above_none : (v : ℕ) → IsTrue (is_older v) → 0 < v
above_none v older = grind (arith, nat_tests)

-- ---- version 2

pub held_as_2 : (db : Database) (s : core.State) → FitAs 2 s → HoldsParts (parts_2 s) db → HoldsAs 2 db s
held_as_2 db s fit has = record { known = has.known; whole = has.whole; means = has.means; fit = fit }

pub rows_of_namings : (kept : List Naming) (is : List Incident) → kept ≡ naming_in is → map naming_row_2 kept ≡ map named_row_2 is
rows_of_namings kept is same = ap (map naming_row_2) same ∙ map-map naming_row_2 (λ (i : Incident). i.naming) is
