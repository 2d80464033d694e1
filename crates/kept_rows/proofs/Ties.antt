-- The ties that are kept of a person's organisation.
use Rattle.{std.proofs.Common.{◌≡◌, ℕ, Option, None, Some, IfSome, inl, inr, sym, ap, ◌∙◌}, circle.specs.declared.directory.Person.Person}
use Rattle.{hub_state.specs.{Reads.ties_of, State.State, declared.look_ups.Ties.Ties}, kept_rows.specs.Seen.{kept_ties, AreTies, KeepsOnly}}
use Rattle.kept_rows.specs.declared.seen.Seen.{Seen}

same_ties : (t u : Ties) (o : Option Ties) → o ≡ Some u → IfSome o (λ x. x ≡ t) → u ≡ t
same_ties t u None h is = cc
same_ties t u (Some x) h is = cc

-- with those to one more source
pub ties_kept : (p : Person) (s : State) (m : ℕ) (t : Ties) (old new : Seen) → t ≡ ties_of p.org m None s → KeepsOnly m t old new → AreTies old p s → AreTies new p s
ties_kept p s m t old new is keeps all n u h = elim (keeps n) [
  | inl same ↦ all n u (sym same ∙ h)
  | inr here ↦ same_ties t u (kept_ties new n) h here.1 ∙ (is ∙ ap (λ k. ties_of p.org k None s) here.0)
]
