use Rattle.std.{proofs.Common.{◌≡◌, ◌∙◌, ◌&&◌, ◌||◌, ap, [], append-nil}, specs.{Option.option_or, Prelude.{is_none, option_map}}}
use Rattle.{marking.specs.Label.marking_of, iodef_tree.specs.Text.Tokens, policy.specs.{Ahead.{Met, met_at, met_by}, Inherited.Inherited}}
use Rattle.policy.proofs.inherited.Carried.in_class.Goals as goal

pub returns : goal.returns
returns g c = λ k s at.
    let above = c.args.self in
    let p = g.S.Spot.tokens c.args.spot.now in
    let here : met_by c.args.ahead.now [] ≡ met_at k s p = ap (λ (f : Tokens → Met). f []) at ∙ ap (met_at k s) (append-nil p) in
    let refused = c.first_refusal.ensures ∙ ap (λ (m : Met). option_or above.refusal m.refusal) here in
    let covered = c.is_covered.ensures ∙ ap (λ b. b || (met_by c.args.ahead.now []).granted) c.outlives.ensures ∙ ap (λ (m : Met). (above.covered && is_none (option_map marking_of c.args.written)) || m.granted) here in
    λ i. let h : Inherited = record { approach = record { path = p; refusal = refused i }; label = c.label_below.ensures i; covered = covered i } in h
