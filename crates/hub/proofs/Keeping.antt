-- Several reads, one after another, and what they leave.
use Rattle.std.{proofs.{Common.{◌≡◌, ◌<◌, ◌≤◌, inl, inr, ℕ, Result, Ok, Err, sym, arith}, Math.Nat.eq-or-lt_of_le}, specs.Prelude.Option}
use Rattle.{hub_core.specs.{Shelves.{IsRead, IsKept}, State.State}, hub_state.specs.declared.shelf.ShelfFault.{ShelfFault, TheVariants.Failed}}

pub kept_on : {D : Type 0} {has : D → State → Type 0} {doubts failed : D → ℕ} {may_remain : D → Option State → Type 0} {old mid new : D} →
    IsKept has doubts failed may_remain old mid → IsKept has doubts failed may_remain mid new → IsKept has doubts failed may_remain old new
kept_on {doubts = doubts} {old = old} {mid = mid} {new = new} first then = record {
  later = omega (arith, first.later, then.later);
  doubt = omega (arith, first.doubt, then.doubt);
  content = λ clean s has. let before : doubts mid ≡ 0 = omega (arith, then.doubt) in then.content clean s (first.content before s has);
  crash = λ clean left leaves. let before : doubts mid ≡ 0 = omega (arith, then.doubt) in first.crash before left (then.crash clean left leaves);
}

-- a call that succeeded counted no failure
pub uncounted : {T : Type 0} {before now : ℕ} {x : T} → before ≤ now → (before < now → (λ (result : Result T ShelfFault). result ≡ Err Failed) (Ok x)) → now ≡ before
uncounted later counted = elim (eq-or-lt_of_le later) [ inl same ↦ sym same | inr rose ↦ let failed = counted rose in absurd cc ]

-- one call more
pub kept_read : {D T : Type 0} {has : D → State → Type 0} {doubts failed : D → ℕ} {may_remain : D → Option State → Type 0} {old new : D} {result : Result T ShelfFault} →
    IsRead has doubts failed may_remain old new result → IsKept has doubts failed may_remain old new
kept_read read = record { later = read.cause.later; doubt = read.doubt; content = read.content; crash = read.crash }
