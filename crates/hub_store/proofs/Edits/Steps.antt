-- Several statements in a transaction.
use Rattle.std.proofs.Common.{◌≡◌, ◌≢◌, ℕ, List, Result, Ok, Err, OnOk, OnErr, IfErr, IsErrAnd, IsTrue, inl, refl, sym, subst, ◌∙◌, arith}
use Rattle.{std.proofs.lemmas.Result.IfErr-weaker, sqlite_value.specs.Order.Row, sqlite.{proofs.StateLemmas.survives_then, specs.{Effect.Database, Held.Held}}}
use Rattle.sqlite.specs.{Held.state, State.{State, HasCleanDisk, KeepsCommit, Survives, Executes, ExecutesInside}, declared.error.Error.Error}
use Rattle.{sqlite.specs.declared.error.Error.TheVariants.SqliteFailure, hub_store.{proofs.Versions.Causes.reason_after, specs.Failing.{HasReason, IsUnheld}}}
use Rattle.hub_store.specs.{Keeps.{Goes, HasRun, HasFailed}, inner.Makes.{Makes, FailsOnly, Creates}}
use Rattle.sqlite_trees.specs.declared.store.Store as store
use Rattle.sqlite.specs.declared.error.ErrorCode.TheVariants as code

pub on_ok : {T E : Type 0} (r : Result T E) (P Q : Type 0) → (P → Q) → OnOk r P → OnOk r Q
on_ok (Ok x) P Q f h = f h
on_ok (Err e) P Q f h = tt

pub on_any : {T E : Type 0} (r : Result T E) (P : Type 0) → P → OnOk r P
on_any (Ok x) P h = h
on_any (Err e) P h = tt

pub on_err_any : {T E : Type 0} (r : Result T E) (P : Type 0) → P → OnErr r P
on_err_any (Ok x) P h = tt
on_err_any (Err e) P h = h

pub kept_then : (a b c : State) → KeepsCommit a b → KeepsCommit b c → KeepsCommit a c
kept_then a b c p q = record { was_open = λ up. p.was_open (q.was_open up); committed = λ up. q.committed up ∙ p.committed (q.was_open up) }

pub kept_itself : (a : State) → KeepsCommit a a
kept_itself a = record { was_open = λ up. up; committed = λ _. refl }

pub survives_on : (a b c : State) → Survives a b (λ _. ⊥) → Survives b c (λ _. ⊥) → Survives a c (λ _. ⊥)
survives_on a b c = survives_then a b c (λ _. ⊥) (λ _. ⊥) (λ _. ⊥) (λ _ db h. h) (λ _ db h. h)

pub clean_before : (a b : State) → Survives a b (λ _. ⊥) → HasCleanDisk b → HasCleanDisk a
clean_before a b s clean = omega (arith, s.clean)

-- a text that was run makes what its meaning says
pub made_by : {S : Type 0} (g : store.Ghosts S) (text : List ℕ) (params : Row) (old new : Held S) (Before After : Database → Type 0) {T : Type 0} (result : Result T Error) → Goes (state g old) (state g new) result →
    (HasCleanDisk (state g new) → IsTrue (state g old).in_transaction → OnOk result (HasRun g text params old new)) →
    ((mid : State) (count : ℕ) → Executes text params mid (state g new) (Ok count) → Before mid.now → After (state g new).now) → Makes (state g old) (state g new) Before After result
made_by g text params old new Before After result goes ran does = record {
  goes = goes;
  made = λ clean inside before. on_ok result (HasRun g text params old new) _ (λ (it : HasRun g text params old new). does (state g it.mid) it.count it.executes (subst Before (sym it.same.0.now_is) before)) (ran clean inside);
}

-- a text that was refused has a reason, if what refuses it has one
pub fails_by : {S : Type 0} (g : store.Ghosts S) (text : List ℕ) (params : Row) (old new : Held S) (Before : Database → Type 0) {T : Type 0} (result : Result T Error) →
    (HasCleanDisk (state g new) → IsTrue (state g old).in_transaction → IfErr result (HasFailed g text params old new)) →
    ((mid : State) (e : Error) → ExecutesInside 0 text params mid (state g new) (Err e) → Before mid.now → e ≢ SqliteFailure code.OutOfMemory → HasReason mid (state g new)) → FailsOnly (state g old) (state g new) Before result
fails_by g text params old new Before result failed why = record {
  cause = λ clean inside before. IfErr-weaker result (HasFailed g text params old new) (λ e. e ≢ SqliteFailure code.OutOfMemory → HasReason (state g old) (state g new))
      (λ e h other. reason_after (state g old) (state g h.mid) (state g new) _ h.survives h.is_open (why (state g h.mid) e h.executes (subst Before (sym h.now) before) other)) (failed clean inside);
}

-- the same, if each failure has a reason
pub created_by : {S : Type 0} (g : store.Ghosts S) (text : List ℕ) (params : Row) (old new : Held S) (Before After : Database → Type 0) {T : Type 0} (result : Result T Error) → Goes (state g old) (state g new) result →
    (HasCleanDisk (state g new) → IsTrue (state g old).in_transaction → OnOk result (HasRun g text params old new)) → (HasCleanDisk (state g new) → IsTrue (state g old).in_transaction → IfErr result (HasFailed g text params old new)) →
    ((mid : State) (count : ℕ) → Executes text params mid (state g new) (Ok count) → Before mid.now → After (state g new).now) →
    ((mid : State) (e : Error) → ExecutesInside 0 text params mid (state g new) (Err e) → Before mid.now → e ≢ SqliteFailure code.OutOfMemory → HasReason mid (state g new)) → Creates (state g old) (state g new) Before After result
created_by g text params old new Before After result goes ran failed does why = record {
  makes = made_by g text params old new Before After result goes ran does;
  cause = (fails_by g text params old new Before result failed why).cause;
}

-- the second statement, after an Ok of the first
pub makes_then : {T U : Type 0} (a b c : State) (P Q R : Database → Type 0) (x : T) (result : Result U Error) → Makes a b P Q (Ok x) → Makes b c Q R result → Makes a c P R result
makes_then a b c P Q R x result one two = record {
  goes = record {
    kept = λ clean inside. let before = clean_before b c two.goes.survives clean in let mid = one.goes.inside before inside in kept_then a b c (one.goes.kept before inside) (two.goes.kept clean mid.0);
    inside = λ clean inside. let before = clean_before b c two.goes.survives clean in let mid = one.goes.inside before inside in on_ok result _ _ (λ late. (late.0, λ up. late.1 (mid.1 up))) (two.goes.inside clean mid.0);
    survives = survives_on a b c one.goes.survives two.goes.survives;
  };
  made = λ clean inside before. let early = clean_before b c two.goes.survives clean in let mid = one.goes.inside early inside in two.made clean mid.0 (one.made early inside before);
}

pub survives_itself : (a : State) → Survives a a (λ _. ⊥)
survives_itself a = record { clean = omega arith; shield = λ h. h; counts = omega arith; limit = refl; closes = λ _ up. inl up; crash = λ _ db h. inl h }

-- nothing was asked yet
pub makes_start : {T : Type 0} (a : State) (P : Database → Type 0) (x : T) → Makes {T = T} a a P P (Ok x)
makes_start a P x = record {
  goes = record { kept = λ _ _. kept_itself a; inside = λ _ inside. (inside, λ up. up); survives = survives_itself a };
  made = λ _ _ before. before;
}

-- a failure after an Ok of the first
pub fails_then : {T U : Type 0} {a b c : State} {P Q : Database → Type 0} {x : T} {result : Result U Error} → Makes a b P Q (Ok x) → Goes b c result → FailsOnly b c Q result → FailsOnly a c P result
fails_then {T} {U} {a} {b} {c} {P} {Q} {x} {result} one goes two = record {
  cause = λ clean inside before.
      let early = clean_before b c goes.survives clean in
      let mid = one.goes.inside early inside in
      IfErr-weaker result (λ e. e ≢ SqliteFailure code.OutOfMemory → HasReason b c) (λ e. e ≢ SqliteFailure code.OutOfMemory → HasReason a c)
      (λ e cause other. reason_after a b c _ one.goes.survives mid.1 (cause other)) (two.cause clean mid.0 (one.made early inside before));
}

pub creates_then : {T U : Type 0} {a b c : State} {P Q R : Database → Type 0} {x : T} {result : Result U Error} → Creates a b P Q (Ok x) → Creates b c Q R result → Creates a c P R result
creates_then {T} {U} {a} {b} {c} {P} {Q} {R} {x} {result} one two = record {
  makes = makes_then a b c P Q R x result one.makes two.makes;
  cause = (fails_then {T = T} {U = U} {a = a} {b = b} {c = c} {P = P} {Q = Q} {x = x} {result = result} one.makes two.makes.goes (record { cause = two.cause })).cause;
}

-- an error that is passed on
pub err_passed : {T E : Type 0} (r : Result T E) (e : E) (P : E → Type 0) → IsErrAnd r (λ y. y ≡ e) → P e → IfErr r P
err_passed (Ok x) e P is h = tt
err_passed (Err y) e P is h = subst P (sym is) h

pub fails_passed : {T U : Type 0} {a b : State} {P : Database → Type 0} {e : Error} {r : Result U Error} → IsErrAnd r (λ y. y ≡ e) → FailsOnly {T = T} a b P (Err e) → FailsOnly a b P r
fails_passed {e = e} {r = r} is one = record { cause = λ clean inside before. err_passed r e _ is (one.cause clean inside before) }

-- nothing but want of memory is no such failure
pub unheld_only : {U : Type 0} (X : Type 0) (r : Result U Error) → IfErr r IsUnheld → IfErr r (λ e. e ≢ SqliteFailure code.OutOfMemory → X)
unheld_only X r unheld = IfErr-weaker r IsUnheld _ (λ e h other. absurd (h other)) unheld

only_err : {U : Type 0} (r : Result U Error) (e : Error) (X : Type 0) → IsErrAnd r (λ y. y ≡ e) → OnOk r X
only_err (Ok x) e X is = absurd is
only_err (Err y) e X is = tt

pub goes_passed : {T U : Type 0} {a b : State} {e : Error} {r : Result U Error} → IsErrAnd r (λ y. y ≡ e) → Goes {T = T} a b (Err e) → Goes a b r
goes_passed {e = e} {r = r} is one = record { kept = one.kept; inside = λ _ _. only_err r e _ is; survives = one.survives }

pub makes_passed : {T U : Type 0} {a b : State} {P Q : Database → Type 0} {e : Error} {r : Result U Error} → IsErrAnd r (λ y. y ≡ e) → Goes {T = T} a b (Err e) → Makes a b P Q r
makes_passed {e = e} {r = r} is one = record { goes = goes_passed is one; made = λ _ _ _. only_err r e _ is }

-- a call that failed and kept the last commit
pub failed_goes : {a b : State} {e : Error} → (HasCleanDisk b → KeepsCommit a b) → Survives a b (λ _. ⊥) → Goes {T = Unit {0}} a b (Err e)
failed_goes kept survives = record { kept = λ clean _. kept clean; inside = λ _ _. tt; survives = survives }

pub creates_not : {T U : Type 0} {a b : State} {P Q R : Database → Type 0} {e : Error} {r : Result U Error} → IsErrAnd r (λ y. y ≡ e) → Creates {T = T} a b P Q (Err e) → Creates a b P R r
creates_not {T} {U} {a} {b} {P} {Q} {R} {e} {r} is one = record {
  makes = makes_passed is one.makes.goes;
  cause = (fails_passed {T = T} {U = U} {a = a} {b = b} {P = P} {e = e} {r = r} is (record { cause = one.cause })).cause;
}
