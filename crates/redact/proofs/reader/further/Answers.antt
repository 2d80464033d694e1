use Rattle.{std.proofs.Common.{◌≡◌, [], ◌∷◌, ◌++◌, sym, ◌∙◌, ap, append_assoc}, iodef_tree.specs.Text.{Bytes, Tokens}, policy.specs.Ahead.{Met, met_at}}
use Rattle.{policy.specs.{Ahead.{ahead_of, nothing_met}, declared.{case.Case.Case, standing.Standing.Standing}}, redact.specs.inner.Tokens.token_of}
use Rattle.redact.proofs.reader.further.Goals as goal

-- if nothing can be met, nothing can be met further down
still-nothing : (c : Case) (s : Standing) (p : Tokens) (x : Bytes) → nothing_met ≡ ahead_of c s p → (z : Tokens) → nothing_met z ≡ ahead_of c s (p ++ x ∷ []) z
still-nothing c s p x e z = ap (λ (f : Tokens → Met). f (x ∷ z)) e ∙ ap (met_at c s) (sym (append_assoc p (x ∷ []) z))

pub returns-then-is_empty : goal.returns-then-is_empty
returns-then-is_empty c = λ k s p at.
    c.none.ensures ∙ (λ i z. still-nothing k s p (token_of c.args.token) (sym (c.is_empty.ensures.0 c.if-is_empty.true) ∙ at) z i)

pub returns-in_ok-below-in-Name : goal.returns-in_ok-below-in-Name
returns-in_ok-below-in-Name c = λ k s p at.
    c.in_ok-below-in-Name.ensures k s p at ∙ ap (λ t. ahead_of k s (p ++ token_of t ∷ [])) (sym c.in-Name.is)

pub returns-in_ok-below-in-Index : goal.returns-in_ok-below-in-Index
returns-in_ok-below-in-Index c = λ k s p at.
    c.in_ok-below-in-Index.ensures k s p at
    ∙ ap (λ x. ahead_of k s (p ++ x ∷ [])) c.format.ensures.text
    ∙ ap (λ t. ahead_of k s (p ++ token_of t ∷ [])) (sym c.in-Index.is)
