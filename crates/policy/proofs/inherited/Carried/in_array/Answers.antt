use Rattle.{std.{proofs.Common.{◌≡◌, ◌∙◌, ◌||◌, ap, [], append-nil}, specs.Option.option_or}, iodef_tree.specs.Text.Tokens, marking.specs.Label.marking_of}
use Rattle.policy.specs.{Ahead.{Met, met_at, met_by}, Inherited.Inherited}
use Rattle.policy.proofs.inherited.Carried.in_array.Goals as goal

pub returns : goal.returns
returns c = λ k s p at.
    let above = c.args.self in
    let here : met_by c.args.ahead.now [] ≡ met_at k s p = ap (λ (f : Tokens → Met). f []) at ∙ ap (met_at k s) (append-nil p) in
    let refused = c.first_refusal.ensures ∙ ap (λ (m : Met). option_or above.refusal m.refusal) here in
    let covered = c.is_covered.ensures ∙ ap (λ (m : Met). above.covered || m.granted) here in
    λ i. let h : Inherited = record { approach = record { path = p; refusal = refused i }; label = marking_of above.label; covered = covered i } in h
