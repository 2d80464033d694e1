use Rattle.{std.proofs.Common.{◌≡◌, ◌∷◌, ◌++◌, [], sym, ◌∙◌, ap, append_assoc}, iodef_tree.specs.Text.Tokens, policy.specs.Ahead.{Met, ahead_of, met_at}}
use Rattle.policy.specs.{Ahead.{met_by, refused_with, granted_with}, Verdict.first_of, declared.ahead.Ahead.Ahead}
use Rattle.policy.proofs.ahead.Ahead.below.Goals as goal

pub returns : goal.returns
returns c = λ k s p at.
    let t = c.args.token.now in
    let b : Ahead = record { refusing = c.in_ok-refusing.refusing; granting = c.in_ok-granting.granting } in
    let step : (z : Tokens) → met_by b z ≡ ahead_of k s (p ++ t ∷ []) z = λ z.
    (λ i. let m : Met = record {
      refusal = first_of ((c.in_ok-refusing.ensures z ∙ ap (λ xs. refused_with xs (t ∷ z)) c.as_slice.ensures.value) i);
      granted = (c.in_ok-granting.ensures z ∙ ap (λ xs. granted_with xs (t ∷ z)) c.as_slice-2.ensures.value) i;
    } in m)
    ∙ ap (λ (f : Tokens → Met). f (t ∷ z)) at
    ∙ ap (met_at k s) (sym (append_assoc p (t ∷ []) z)) in
    λ i z. step z i
