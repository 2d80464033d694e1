use Rattle.{std.proofs.Common.{sym, ◌∙◌, ap, bytes_eq, decimal, rules}, redact.{proofs.Alike.places-alike, specs.inner.Tokens.token_of}}
use Rattle.redact.proofs.trail.is_same.Goals as goal

pub returns-in-Index-Index : goal.returns-in-Index-Index
returns-in-Index-Index c =
    let here = c.in-Index-Index in
    places-alike here.one here.other (search rules) (search rules)
    ∙ ap (λ t. bytes_eq (token_of t) (decimal here.other)) (sym here.is-0)
    ∙ ap (λ t. bytes_eq (token_of c.args.one) (token_of t)) (sym here.is-1)
