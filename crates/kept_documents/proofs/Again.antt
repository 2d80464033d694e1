-- A read that is made once more.
use Rattle.std.proofs.{Common.{◌≡◌, ◌≤◌, ℕ, List, Option, Result, Ok, Err, inl, inr, arith}, Math.Nat.eq-or-lt_of_le, lemmas.Result.IfOk-weaker}
use Rattle.hub_state.specs.{Shelves.{HasCause, HasFailed, IsRead, Reads}, State.State, declared.shelf.ShelfFault.{ShelfFault, TheVariants.{Failed, NoMemory}}}
use Rattle.kept_documents.specs.Kept.{Entry, AreDocuments, AreAmong}

pub not_failed : {T : Type 0} (result : Result T ShelfFault) → result ≡ Err NoMemory → ¬ (result ≡ Err Failed)
not_failed result wants e = absurd cc

pub ok_not_failed : {T : Type 0} (x : T) → ¬ ((λ (result : Result T ShelfFault). result ≡ Err Failed) (Ok x))
ok_not_failed x e = absurd cc

failed_since : (before mid now : ℕ) → before ≤ mid → HasFailed mid now → HasFailed before now
failed_since before mid now low (inl rose) = inl (omega (arith, low, rose))
failed_since before mid now low (inr last) = inr last

cause_since : {T U : Type 0} (before mid now : ℕ) (first : Result U ShelfFault) (second : Result T ShelfFault) → ¬ (first ≡ Err Failed) → HasCause before mid first → HasCause mid now second → HasCause before now second
cause_since before mid now first second well one two = record {
  later = omega (arith, one.later, two.later);
  failed = λ e. failed_since before mid now one.later (two.failed e);
  counted = λ rose. elim (eq-or-lt_of_le one.later) [ inl same ↦ two.counted (omega (arith, same, rose)) | inr risen ↦ absurd (well (one.counted risen)) ];
  ended = λ e. absurd (well (one.ended e));
}

module _ {D : Type 0} (has : D → State → Type 0) (doubts : D → ℕ) (failed : D → ℕ) (may_remain : D → Option State → Type 0) (old mid new : D) where
  -- a call that left the store as it was and didn't fail, and then a read
  pub read_again : {T U : Type 0} (Right : State → T → Type 0) (first : Result U ShelfFault) (second : Result T ShelfFault) → ¬ (first ≡ Err Failed)
      → IsRead has doubts failed may_remain old mid first → Reads has doubts failed may_remain mid new Right second → Reads has doubts failed may_remain old new Right second
  read_again Right first second well one two = record {
    value = λ clean s held. two.value clean s (one.content (still_clean clean) s held);
    kept = record {
      cause = cause_since (failed old) (failed mid) (failed new) first second well one.cause two.kept.cause;
      doubt = omega (arith, one.doubt, two.kept.doubt);
      content = λ clean s held. two.kept.content clean s (one.content (still_clean clean) s held);
      crash = λ clean left may. one.crash (still_clean clean) left (two.kept.crash clean left may);
    };
  }
    where
      still_clean : doubts new ≡ 0 → doubts mid ≡ 0
      still_clean clean = omega (arith, clean, two.kept.doubt)

module _ {D : Type 0} (has : D → State → Type 0) (doubts : D → ℕ) (failed : D → ℕ) (may_remain : D → Option State → Type 0) (old new : D) where
  -- a read whose value is right is right in other words
  pub read_as : {T : Type 0} (Right Other : State → T → Type 0) (result : Result T ShelfFault) → ((s : State) (x : T) → Right s x → Other s x)
      → Reads has doubts failed may_remain old new Right result → Reads has doubts failed may_remain old new Other result
  read_as Right Other result go read = record {
    value = λ clean s held. IfOk-weaker result (Right s) (Other s) (go s) (read.value clean s held);
    kept = read.kept;
  }

-- fewer documents are right as well
pub fewer : (old new : List Entry) (s : State) → AreAmong new old → AreDocuments old s → AreDocuments new s
fewer old new s among all e k = all e (among e k)
