use Rattle.{std.proofs.Common.{◌∙◌, ap, []}, marking.specs.Label.private, iodef_tree.specs.Text.Tokens, policy.specs.{Ahead.Met, Inherited.Inherited}}
use Rattle.policy.proofs.inherited.Carried.at_root.Goals as goal

pub returns : goal.returns
returns c = λ k s at.
    let refused = c.refusal.ensures ∙ ap (λ (f : Tokens → Met). (f []).refusal) at in
    let granted = c.is_granted.ensures ∙ ap (λ (f : Tokens → Met). (f []).granted) at in
    λ i. let h : Inherited = record { approach = record { path = []; refusal = refused i }; label = private; covered = granted i } in h
