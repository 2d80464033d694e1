-- What a migration returns, by what the query for the version left and then the steps.
use Rattle.std.proofs.{Common.{◌≡◌, ◌≤◌, ◌⊎◌, inl, inr, ℕ, Bool, true, false, IsTrue, IsSome, Some, refl, sym, subst, ◌∙◌, arith}, lemmas.Bool.true≢false}
use Rattle.{sqlite_trees.specs.Tree.Trees, sqlite.{proofs.StateLemmas.survives_then, specs.{Effect.Database, State.{State, HasCleanDisk, Survives}}}}
use Rattle.{hub_state.specs.declared.shelf.ShelfFault.ShelfFault, hub_store.proofs.{Edits.Runs.kept_has, Versions.VersionHeld.{older_tells, newest_tells}}}
use Rattle.hub_store.specs.{Content.{HasAs, Has, CommitsState}, Failing.HasReason, Keeps.KeepsCommitted, Means.HoldsAs, Opening.{newest, is_older, opened_as}}
use Rattle.hub_store.specs.{Opening.{IsMigrationFault, IsRenewed, IsRenewedFrom, IsBrought, IsNotBrought, IsMigrated, IsUnmigrated}, Versions.version_of}
use Rattle.hub_store.specs.declared.sql_shelf.OpenFault.{OpenFault, TheVariants.{Failed, NoMemory}}
use Rattle.hub_state.specs.State as core
use Rattle.hub_state.specs.declared.shelf.ShelfFault.TheVariants as shelf

pub committed_has : (old new : State) (v : ℕ) (s : core.State) → HasAs v old s → CommitsState new s → Has new s
committed_has old new v s has it = record { sound = has.sound; holds = λ _. it.holds; settled = λ _. it.settled }

pub committed_tells : (old new : State) (v : ℕ) (s : core.State) → HasAs v old s → CommitsState new s → version_of new.now ≡ Some newest
committed_tells old new v s has it = newest_tells new s (committed_has old new v s has it) it.is_open

survives_more : (a b : State) (P Q : Trees → Type 0) → ((db : Trees) → P db → Q db) → Survives a b P → Survives a b Q
survives_more a b P Q f s = record {
  clean = s.clean;
  shield = s.shield;
  counts = s.counts;
  limit = s.limit;
  closes = s.closes;
  crash = λ clean db may. elim (s.crash clean db may) [ inl before ↦ inl before | inr made ↦ inr (f db made) ];
}

one_version : (db : Database) (v w : ℕ) → version_of db ≡ Some v → version_of db ≡ Some w → v ≡ w
one_version db v w is also = let both = sym is ∙ also in cc

-- the newest version isn't an older one
newest_only : (db : Database) (v : ℕ) → IsTrue (is_older v) → version_of db ≡ Some v → version_of db ≡ Some newest → ⊥
newest_only db v older is also = true≢false (sym (subst (λ w. IsTrue (is_older w)) (one_version db v newest is also) older))

keeps_on : (a b c : State) → KeepsCommitted a b → KeepsCommitted b c → KeepsCommitted a c
keeps_on a b c p q = record {
  was_open = λ up. p.was_open (q.was_open up);
  now = λ up. q.now up ∙ p.committed (q.was_open up);
  committed = λ up. q.committed up ∙ p.committed (q.was_open up);
}

-- a reason that arises after a call that wrote nothing is a reason for both
reason_on : (a b c : State) → Survives a b (λ _. ⊥) → HasCleanDisk b → b.faults ≤ c.faults → HasReason b c → HasReason a c
reason_on a b c s clean more (inl h) = inl (omega (arith, s.counts, h))
reason_on a b c s clean more (inr (inr limited)) = inr (inr (subst IsSome s.limit limited))
reason_on a b c s clean more (inr (inl shut)) = go a.is_open refl
  where
    go : (up : Bool) → a.is_open ≡ up → HasReason a c
    go false is = inr (inl is)
    go true is = elim (s.closes clean is) [ inl still ↦ absurd (true≢false (sym still ∙ shut)) | inr fell ↦ inl (omega (arith, fell, more)) ]

pub store_cause : (fault : ShelfFault) (P : Type 0) → (fault ≡ shelf.Failed → P) → opened_as fault ≡ Failed → P
store_cause shelf.NoMemory P cause is = absurd cc
store_cause shelf.Failed P cause is = cause refl

pub either_fault : (fault : ShelfFault) → (opened_as fault ≡ Failed) ⊎ (opened_as fault ≡ NoMemory)
either_fault shelf.NoMemory = inr refl
either_fault shelf.Failed = inl refl

told_fault : (db : Database) (fault : OpenFault) → (fault ≡ Failed) ⊎ (fault ≡ NoMemory) → IsMigrationFault db fault
told_fault db fault (inl is) = subst (IsMigrationFault db) (sym is) tt
told_fault db fault (inr is) = subst (IsMigrationFault db) (sym is) tt

module _ (old mid : State) (asked : Survives old mid (λ _. ⊥)) (kept : HasCleanDisk mid → KeepsCommitted old mid) where
  -- the tables are the newest
  pub at_newest : (failures : ℕ) → (HasCleanDisk mid → version_of old.now ≡ Some newest) → (HasCleanDisk mid → IsTrue old.is_open) → failures ≡ 0 → IsMigrated old mid failures
  at_newest failures told up begun = record {
    version = λ clean. inl (told clean);
    content = λ clean s has. kept_has old mid s (kept clean) has;
    moved = λ clean v older s has. absurd (never clean v older s has);
    now = λ clean v older s has. absurd (never clean v older s has);
    durable = λ clean v older s has. absurd (never clean v older s has);
    same = λ clean _. kept clean;
    begun = begun;
    survives = survives_more old mid _ _ (λ db none. absurd none) asked;
    unwritten = λ _ _. asked;
  }
    where
      never : HasCleanDisk mid → (v : ℕ) → IsTrue (is_older v) → (s : core.State) → HasAs v old s → ⊥
      never clean v older s has = newest_only old.now v older (older_tells old v s older has (up clean)) (told clean)

  -- nothing was written
  pub not_begun : (fault : OpenFault) → (HasCleanDisk mid → IsMigrationFault old.now fault) → (HasCleanDisk mid → fault ≡ Failed → HasReason old mid) → IsUnmigrated old mid fault
  not_begun fault why cause = record {
    why = why;
    cause = λ clean is. inl (cause clean is);
    failed = λ clean is v older s has taken. cause clean is;
    kept = kept;
    content = λ clean v s has. kept_has old mid s (kept clean) has;
    survives = survives_more old mid _ _ (λ db none. absurd none) asked;
    unwritten = λ _ _. asked;
  }

  module _ (found : ℕ) (older : IsTrue (is_older found)) (told : HasCleanDisk mid → version_of old.now ≡ Some found) (new : State) where
    early : Survives mid new (IsRenewedFrom found mid) → HasCleanDisk new → HasCleanDisk mid
    early survives clean = omega (arith, survives.clean)

    -- a state that is held as an older version is held as the version of the store
    as_told : HasCleanDisk mid → (v : ℕ) → IsTrue (is_older v) → (s : core.State) → HasAs v old s → HasAs found mid s
    as_told clean v older s has =
        let k = kept clean in
        let still = kept_has old mid s k has in
        record {
          sound = has.sound;
          holds = λ up. subst (λ w. HoldsAs w mid.committed s) (one_version old.now v found (older_tells old v s older has (k.was_open up)) (told clean)) (still.holds up);
          settled = still.settled;
        }

    over_both : Survives mid new (IsRenewedFrom found mid) → Survives old new (IsRenewed old)
    over_both survives =
        survives_then old mid new (λ _. ⊥) (IsRenewedFrom found mid) (IsRenewed old) (λ _ db none. absurd none) (λ clean db made v other s has. made s (as_told (early survives clean) v other s has)) asked survives

    pub is_brought : (failures : ℕ) → IsBrought found mid new failures → IsMigrated old new failures
    is_brought failures it =
        let before = early it.survives in
        record {
          version = λ clean. inr (found, older, told (before clean));
          content = λ clean s has. absurd (never clean s has);
          moved = λ clean v other s has. it.content clean s (as_told (before clean) v other s has);
          now = λ clean v other s has. it.now clean s (as_told (before clean) v other s has);
          durable = λ clean v other s has. it.durable clean s (as_told (before clean) v other s has);
          same = λ clean also. absurd (newest_only old.now found older (told (before clean)) also);
          begun = it.begun;
          survives = over_both it.survives;
          unwritten = λ clean also. absurd (newest_only old.now found older (told (before clean)) also);
        }
      where
        never : HasCleanDisk new → (s : core.State) → Has old s → ⊥
        never clean s has = newest_only old.now found older (told (early it.survives clean)) (newest_tells old s has ((kept (early it.survives clean)).was_open (it.was_open clean)))

    pub is_not_brought : (fault : OpenFault) → IsNotBrought found mid new fault → IsUnmigrated old new fault
    is_not_brought fault it =
        let before = early it.survives in
        let keeps = λ (clean : HasCleanDisk new). keeps_on old mid new (kept (before clean)) (it.kept clean) in
        record {
          why = λ _. told_fault old.now fault it.why;
          cause = λ clean _. inr (found, older, told (before clean));
          failed = λ clean is v other s has taken. reason_on old mid new asked (before clean) it.survives.counts (it.cause clean is s (as_told (before clean) v other s has) taken);
          kept = keeps;
          content = λ clean v s has. kept_has old new s (keeps clean) has;
          survives = over_both it.survives;
          unwritten = λ clean none. absurd (none (found, older, told (before clean)));
        }
