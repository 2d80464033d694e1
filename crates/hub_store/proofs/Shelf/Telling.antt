-- What the shelf promises, by what the connection did.
use Rattle.{std.proofs.Common.{◌≡◌, ℕ, inl, inr, Option, Result, Ok, Err, IfOk, OnOk, OnErr, sym, subst}, sqlite_trees.specs.View.doubt, sqlite.specs.Held.Held}
use Rattle.{sqlite.specs.{Held.state, State.{State, HasCleanDisk, Survives}, declared.error.Error.Error}, hub_state.specs.Shelves.{HasCause, Reads}}
use Rattle.{hub_state.specs.declared.shelf.ShelfFault.ShelfFault, hub_store.{proofs.Edits.Runs.{knows, kept_has}, specs.Content.{Has, MayLeave}}}
use Rattle.hub_store.specs.{Shelved.Shelved, inner.Queries.IsReadOutside}
use Rattle.sqlite_trees.specs.declared.store.Store as store
use Rattle.hub_state.specs.State as core

-- what commits nothing leaves a crash what it left before
leaves_no_more : (old new : State) (left : Option core.State) → Survives old new (λ _. ⊥) → HasCleanDisk new → MayLeave new left → MayLeave old left
leaves_no_more old new left survives clean may = elim (survives.crash clean may.0 may.1) [
  | inl before ↦ (may.0, before, may.2)
  | inr none ↦ absurd none
]

-- the shelf over a connection, with this count
abbrev seen : {S : Type 0} → Held S → ℕ → Shelved S
seen conn failures = record { conn = conn; failures = failures }

-- what was found is right, if it is returned
value_right : {T : Type 0} (outcome : Result T Error) (result : Result T ShelfFault) (Right : T → Type 0) →
    IfOk outcome Right → IfOk result (λ x. outcome ≡ Ok x) → IfOk result Right
value_right outcome (Ok x) Right right told = subst (λ r. IfOk r Right) told right
value_right outcome (Err fault) Right right told = tt

-- what the shelf promises of a read
abbrev pub ShelfReads : {S : Type 0} → store.Ghosts S → Shelved S → Shelved S → {T : Type 0} → (core.State → T → Type 0) → Result T ShelfFault → Type 0
ShelfReads {S} g old new =
    Reads (λ (d : Shelved S) s. Has (state g d.conn) s) (λ (d : Shelved S). doubt (state g d.conn).is_clean) (λ (d : Shelved S). d.failures)
    (λ (d : Shelved S) left. MayLeave (state g d.conn) left) old new

-- a read of the connection is a read of the shelf
pub reads : {S : Type 0} (g : store.Ghosts S) (conn : Held S) (failures : ℕ) (old new : Shelved S) {T : Type 0}
    (Right : core.State → T → Type 0) (outcome : Result T Error) (result : Result T ShelfFault) → seen conn failures ≡ old →
    IsReadOutside (state g conn) (state g new.conn) Right outcome → HasCause failures new.failures result → IfOk result (λ x. outcome ≡ Ok x) →
    ShelfReads g old new Right result
reads g conn failures old new Right outcome result same answers cause told =
    subst (λ (h : Shelved _). ShelfReads g h new Right result) same
    (record {
      value = λ clean s has. value_right outcome result (Right s) (answers.right clean s has) told;
      kept = record {
        cause = cause;
        doubt = answers.survives.clean;
        content = λ clean s has. kept_has (state g conn) (state g new.conn) s (answers.kept clean (knows (state g conn) s has)) has;
        crash = λ clean left may. leaves_no_more (state g conn) (state g new.conn) left answers.survives clean may;
      };
    })

pub err_only : {T E F : Type 0} (made : Result T E) (told : Result T F) (A K Q : Type 0) → IfOk made (λ x. told ≡ Ok x) →
    (A → OnErr made K) → ((A → K) → Q) → OnErr told Q
err_only (Ok x) told A K Q given none f = subst (λ r. OnErr r Q) (sym given) tt
err_only (Err e) (Ok x) A K Q given none f = tt
err_only (Err e) (Err d) A K Q given none f = f none

pub ok_only : {T E F : Type 0} (made : Result T E) (told : Result T F) (P Q : Type 0) → IfOk told (λ x. made ≡ Ok x) →
    OnOk made P → (P → Q) → OnOk told Q
ok_only made (Err e) P Q value h f = tt
ok_only made (Ok x) P Q value h f = f (subst (λ r. OnOk r P) value h)
