-- A transaction under any tables: a query, and one call after another.
use Rattle.{std.proofs.Common.{ℕ, List, Option, None, Some, Result, Ok, IsTrue, true, if◌then◌else◌, refl, ap, ◌∙◌}, sqlite_value.specs.Order.Row}
use Rattle.{sqlite_schema.specs.declared.command.Returning.Returning, sqlite_resolve.specs.declared.compiled.Compiled.Compiled, sqlite.specs.Held.{Held, state}}
use Rattle.{sqlite.specs.{State.{State, HasCleanDisk, Survives, Shows, Shown, ShowsRows}, declared.error.Error.Error}, hub_store.proofs.Edits.Steps.makes_then}
use Rattle.hub_store.{proofs.Edits.Steps.on_any, specs.{Keeps.Goes, inner.{Makes.Makes, Queries.HasShown}}}
use Rattle.sqlite_trees.specs.declared.store.Store as store

rows_inside : (old new : State) (sql : List ℕ) (c : Compiled) (params : Row) (rows : List Row) (r : Option Returning) → IsTrue old.in_transaction → ShowsRows old new sql c params rows r → Shows old new new.now old.committed true
rows_inside old new sql c params rows None inside h = record { was_open = h.3.0.was_open; is_open = h.3.0.is_open; now_is = refl; committed_is = h.3.0.committed_is; mode = h.3.0.mode ∙ inside }
rows_inside old new sql c params rows (Some what) inside h =
    let it = h.1.shown in
    record { was_open = it.was_open; is_open = it.is_open; now_is = refl; committed_is = it.committed_is ∙ ap (λ b. if b then old.committed else new.now) inside; mode = it.mode ∙ inside }

shown_inside : (old new : State) (sql : List ℕ) (params : Row) (rows : List Row) → IsTrue old.in_transaction → Shown sql params old new rows → Shows old new new.now old.committed true
unfolding Shown
shown_inside old new sql params rows inside h = rows_inside old new sql h.0 _ rows h.0.returning inside h.2

-- a query commits nothing, and the transaction goes on
asked_inside : {S : Type 0} (g : store.Ghosts S) (text : List ℕ) (params : Row) (old new : Held S) (rows : List Row) → HasShown g text params old new rows → IsTrue (state g old).in_transaction → Shows (state g old) (state g new) (state g new).now (state g old).committed true
asked_inside g text params old new rows it inside =
    let same = it.same.0 in
    let late = shown_inside (state g it.mid) (state g new) text params rows (same.mode ∙ inside) it.shown in
    record { was_open = same.was_open; is_open = late.is_open; now_is = refl; committed_is = late.committed_is ∙ same.committed_is; mode = late.mode }

pub goes_asked : {S : Type 0} (g : store.Ghosts S) (text : List ℕ) (params : Row) (old new : Held S) (rows : List Row) {T : Type 0} (result : Result T Error) → Survives (state g old) (state g new) (λ _. ⊥) → (HasCleanDisk (state g new) → HasShown g text params old new rows)
    → Goes (state g old) (state g new) result
goes_asked g text params old new rows result survives shown = record {
  kept = λ clean inside. let it = asked_inside g text params old new rows (shown clean) inside in record { was_open = λ _. it.was_open; committed = λ _. it.committed_is };
  inside = λ clean inside. let it = asked_inside g text params old new rows (shown clean) inside in on_any result _ (it.mode, λ _. it.is_open);
  survives = survives;
}

any_makes : {T : Type 0} (a b : State) (result : Result T Error) → Goes a b result → Makes a b (λ _. Unit {0}) (λ _. Unit {0}) result
any_makes a b result goes = record { goes = goes; made = λ _ _ _. on_any result (Unit {0}) tt }

-- the second call, after an Ok of the first
pub goes_then : {T U : Type 0} (a b c : State) (x : T) (result : Result U Error) → Goes a b (Ok x) → Goes b c result → Goes a c result
goes_then a b c x result one two = (makes_then a b c (λ _. Unit {0}) (λ _. Unit {0}) (λ _. Unit {0}) x result (any_makes a b (Ok x) one) (any_makes b c result two)).goes
