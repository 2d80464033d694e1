-- Several reads in a transaction, and what is made of them.
use Rattle.{std.proofs.Common.{inl, Result, Ok, Err, IfOk, sym, ap, subst, ◌∙◌}, sqlite.{proofs.Callers.unchanged_then, specs.{Effect.Database, State.State}}}
use Rattle.{sqlite.specs.{State.IsUnchanged, declared.error.Error.Error}, hub_state.specs.Sound.IsSound, hub_store.proofs.Edits.Steps.{on_any, on_ok}}
use Rattle.hub_store.{proofs.{Edits.Steps.{clean_before, survives_on, kept_then}, Rows.Outcomes.unchanged_keeps}, specs.{Keeps.Knows, Means.Holds}}
use Rattle.hub_store.specs.inner.Queries.{IsReadInside}
use Rattle.hub_state.specs.State as core

still_knows : (a b : State) → IsUnchanged a b → Knows a → Knows b
still_knows a b same knows up = ap (λ (d : Database). d.schema) same.0.now_is ∙ knows same.0.was_open

if_ok_both : {T : Type 0} (r : Result T Error) (P : Type 0) (Q : T → Type 0) → P → IfOk r Q → IfOk r (λ y. P × Q y)
if_ok_both (Ok x) P Q one two = (one, two)
if_ok_both (Err e) P Q one two = tt

-- the second read, after an Ok of the first
pub read_then : {T U : Type 0} (a b c : State) (R : core.State → T → Type 0) (Q : core.State → U → Type 0) (x : T) (result : Result U Error) → IsReadInside a b R (Ok x) → IsReadInside b c Q result → IsReadInside a c (λ s y. R s x × Q s y) result
read_then a b c R Q x result one two = record {
  survives = survives_on a b c one.survives two.survives;
  kept = λ clean knows.
      let before = clean_before b c two.survives clean in
      let same = one.same before knows in
      kept_then a b c (unchanged_keeps a b (inl same)) (two.kept clean (still_knows a b same knows));
  same = λ clean knows.
      let before = clean_before b c two.survives clean in
      let same = one.same before knows in
      on_ok result (IsUnchanged b c) (IsUnchanged a c) (λ more. unchanged_then a b c same more) (two.same clean (still_knows a b same knows));
  right = λ clean s holds sound.
      let before = clean_before b c two.survives clean in
      let same = one.same before (λ _. holds.known) in
      if_ok_both result (R s x) (Q s) (one.right before s holds sound) (two.right clean s (subst (λ d. Holds d s) (sym same.0.now_is) holds) sound);
}

-- what was made of the value that was read, or of none
pub read_made : {T U : Type 0} (a b : State) (R : core.State → T → Type 0) (Q : core.State → U → Type 0) (x : T) (result : Result U Error) → IsReadInside a b R (Ok x) → ((s : core.State) → IsSound s → R s x → IfOk result (Q s)) → IsReadInside a b Q result
read_made a b R Q x result read makes = record { survives = read.survives; kept = read.kept; same = λ clean knows. on_any result _ (read.same clean knows); right = λ clean s holds sound. makes s sound (read.right clean s holds sound) }

-- what is made of it
pub read_gives : {T U : Type 0} (a b : State) (R : core.State → T → Type 0) (Q : core.State → U → Type 0) (x : T) (y : U) → IsReadInside a b R (Ok x) → ((s : core.State) → IsSound s → R s x → Q s y) → IsReadInside a b Q (Ok y)
read_gives a b R Q x y = read_made a b R Q x (Ok y)

-- a failure is right in every state
pub read_fails : {T U : Type 0} (a b : State) (R : core.State → T → Type 0) (Q : core.State → U → Type 0) (e : Error) → IsReadInside {T = T} a b R (Err e) → IsReadInside {T = U} a b Q (Err e)
read_fails a b R Q e read = record { survives = read.survives; kept = read.kept; same = λ _ _. tt; right = λ _ _ _ _. tt }

-- the same answer in other words
pub read_turned : {T : Type 0} (a b : State) (R Q : core.State → T → Type 0) (result : Result T Error) → IsReadInside a b R result → ((s : core.State) (x : T) → IsSound s → R s x → Q s x) → IsReadInside a b Q result
read_turned a b R Q (Ok x) read makes = read_gives a b R Q x x read (λ s. makes s x)
read_turned a b R Q (Err e) read makes = read_fails a b R Q e read
