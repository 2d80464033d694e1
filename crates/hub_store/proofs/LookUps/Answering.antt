-- A query in a transaction that is rolled back shows the last commit.
use Rattle.{std.proofs.Common.{◌≡◌, List, ℕ, inl, Result, Ok, Err, IfOk, OnOk, IsErrAnd, IsTrue, true, ◌∙◌}, sqlite_value.specs.Order.Row}
use Rattle.{sqlite_sql.specs.Query.{Query, IsAnswer}, sqlite.{proofs.Callers.survives_begin, specs.{Held.{Held, state}, State.{HasCleanDisk, IsUnchanged}}}}
use Rattle.{sqlite.specs.{State.{IsRolledBack, Survives}, declared.error.Error.Error}, hub_state.specs.Sound.IsSound, hub_store.proofs.Edits.Runs.knows}
use Rattle.hub_store.proofs.{Edits.{Runs.has_now, Steps.{on_ok, on_any, clean_before, survives_on}}, LookUps.Asking.{asked_same, asked_rows}, Rows.Forms.Asks}
use Rattle.hub_store.{proofs.Rows.Outcomes.unchanged_keeps, specs.{Means.Holds, inner.Queries.{HasShown, IsReadInside, IsReadOutside}}}
use Rattle.sqlite_trees.specs.declared.store.Store as store
use Rattle.hub_state.specs.State as core

pub read_shown : {S : Type 0} (g : store.Ghosts S) {text : List ℕ} {q : Query} → Asks text q → (params : Row) (old new : Held S)
    (rows : List Row) {T : Type 0} (Right : core.State → T → Type 0) (result : Result T Error)
    → Survives (state g old) (state g new) (λ _. ⊥) → (HasCleanDisk (state g new) → HasShown g text params old new rows)
    → ((s : core.State) → Holds (state g old).now s → IsSound s → IsAnswer q (state g old).now.trees params rows → IfOk result (Right s))
    → IsReadInside (state g old) (state g new) Right result
read_shown g {text} {q} asks params old new rows Right result survives shown right = record {
  survives = survives;
  kept = λ clean knows. unchanged_keeps _ _ (inl (asked_same g text params old new rows asks.plain (shown clean) knows));
  same = λ clean knows. on_any result _ (asked_same g text params old new rows asks.plain (shown clean) knows);
  right = λ clean s holds sound. right s holds sound (asked_rows g text params old new rows asks.plain (shown clean)
      q asks.names holds.known asks.is asks.unlisted);
}

if_up : {T : Type 0} (r : Result T Error) (Up : Type 0) (P : T → Type 0) → OnOk r Up → (Up → IfOk r P) → IfOk r P
if_up (Ok x) Up P up f = f up
if_up (Err e) Up P up f = tt

-- a failed read is no answer
pub unread : {T : Type 0} (r : Result T Error) (e : Error) (P : T → Type 0) → IsErrAnd r (λ y. y ≡ e) → IfOk r P
unread (Ok x) e P is = absurd is
unread (Err y) e P is = tt

pub rolled : {S : Type 0} (g : store.Ghosts S) (old mid end : Held S) {T : Type 0} (Right : core.State → T → Type 0) (result : Result T Error) → IsReadInside (state g (record old { in_transaction = true })) (state g mid) Right result
    → (HasCleanDisk (state g end) → IsRolledBack (state g mid) (state g end)) → Survives (state g mid) (state g end) (λ _. ⊥) → IsReadOutside (state g old) (state g end) Right result
rolled g old mid end Right result read back survives = record {
  survives = survives_begin g old (state g end) _ (survives_on (state g (record old { in_transaction = true })) (state g mid) (state g end) read.survives survives);
  kept = λ clean knows.
      let keep = read.kept (clean_before (state g mid) (state g end) survives clean) knows in
      let undone = back clean in
      record { was_open = λ up. keep.was_open (undone.was_open up); now = λ up. (undone.undone up).0 ∙ keep.committed (undone.was_open up); committed = λ up. (undone.undone up).1 ∙ keep.committed (undone.was_open up) };
  right = λ clean s has.
      let before = clean_before (state g mid) (state g end) survives clean in
      if_up result (IsTrue (state g old).is_open) (Right s)
      (on_ok result (IsUnchanged (state g (record old { in_transaction = true })) (state g mid)) _ (λ same. same.0.was_open) (read.same before (knows (state g old) s has)))
      (λ up. read.right before s (has_now (state g old) s has up) has.sound);
}
