-- Why a store of an older version that stands for a state isn't brought to the newest.
use Rattle.{std.proofs.Common.{◌≡◌, ◌≤◌, inl, inr, ℕ, Bool, true, false, is_some, IsTrue, refl, sym, subst}, sqlite_schema.specs.Names.same_name}
use Rattle.{sqlite.specs.{Held.{Held, state}, State.{State, IsLive}}, hub_store.proofs.{Edits.Runs.has_now, Versions.Causes.reason_before}}
use Rattle.hub_store.{proofs.Versions.VersionHeld.{IsOneOfThree, older_is}, specs.{Content.HasAs, Failing.HasReason, Opening.is_older, Tables.schema_by}}
use Rattle.hub_store.specs.Versions.{version_column}
use Rattle.sqlite_trees.specs.declared.store.Store as store
use Rattle.hub_state.specs.State as core

column_there : (v : ℕ) → IsOneOfThree v → is_some (version_column (schema_by v)) ≡ true
unfolding same_name
column_there v (inl is) = subst (λ n. is_some (version_column (schema_by n)) ≡ true) (sym is) refl
column_there v (inr (inl is)) = subst (λ n. is_some (version_column (schema_by n)) ≡ true) (sym is) refl
column_there v (inr (inr is)) = subst (λ n. is_some (version_column (schema_by n)) ≡ true) (sym is) refl

-- an open store has the column of the version, and obeys its tables
there : (v : ℕ) (old : State) (s : core.State) → IsTrue (is_older v) → HasAs v old s → IsTrue old.is_open → (is_some (version_column old.now.schema) ≡ true) × IsLive old
there v old s older has up =
    let now = has_now {v = v} old s has up in
    (subst (λ k. is_some (version_column k) ≡ true) (sym now.known) (column_there v (older_is v older)), λ still. (now.whole, (has.holds still).whole))

-- asking whether the store answers fails for a reason, whatever is undone then
pub probe_fails : {S : Type 0} (g : store.Ghosts S) (v : ℕ) (old : Held S) (probed end : State) (s : core.State) → IsTrue (is_older v) → HasAs v (state g old) s
    → (IsTrue (is_some (version_column (state g (record old { in_transaction = true })).now.schema)) → IsLive (state g (record old { in_transaction = true })) → HasReason (state g (record old { in_transaction = true })) probed)
    → probed.faults ≤ end.faults → HasReason (state g old) end
probe_fails g v old probed end s older has cause more = go (state g old).is_open refl
  where
    go : (up : Bool) → (state g old).is_open ≡ up → HasReason (state g old) end
    go false shut = inr (inl shut)
    go true up = let it = there v (state g old) s older has up in reason_before (state g old) probed end more (cause it.0 it.1)
